-- What every bank keeps, for any message and any eviction.
use Rattle.std.specs.Prelude.{◌≡◌, ℕ, ◌<◌, ◌≤◌, Bool, true, false, not, List, length, Option, Some, None}
use Rattle.network.specs.declared.message.TimedLine.{TimedLine}
use Rattle.network.specs.declared.message.Body.{Body}
use Rattle.network.specs.declared.message.Body.TheVariants.{ShReq, ExReq, ShRep, ExRep, RenewRep, UpgradeRep, DramLd}
use Rattle.network.specs.declared.message.Body.TheVariants.{DramLdRep}
use Rattle.network.specs.declared.message.Message.{Message}
use Rattle.network.specs.declared.part.Reaction.{Reaction}
use Rattle.network.specs.declared.part.Reaction.TheVariants.{Done, Dropped, Held, HeldAfter}
use Rattle.timestamp_manager.specs.Lease.{is_version}
use Rattle.timestamp_manager.specs.LeaseLaws.{Covers}
use Rattle.llc_bank.specs.declared.entry.Entry.{Entry}
use Rattle.llc_bank.specs.declared.entry.Entry.TheVariants.{Loading, Shared, Exclusive}
use Rattle.llc_bank.specs.Settled.{is_shared}
use Rattle.llc_bank.specs.BankTable.{BankState, bank_table, core_of, entry_of, evict}

-- the message that is sent, in answer or on behalf of one that stays
abbrev pub message_of : Reaction → Option Message
message_of (Done answer) = answer
message_of Dropped = None
message_of Held = None
message_of (HeldAfter sent) = Some sent

-- at a message m the bank sends this one, and is the other bank afterwards
pub record Sends (bank : BankState) (m sent : Message) (after : BankState) : Type 0 where
  pub reaction : Reaction
  pub case : bank_table bank m ≡ Some (reaction, after)
  pub message : message_of reaction ≡ Some sent

-- a grant of a line
abbrev pub is_grant : Body → Bool
is_grant (ExRep line) = true
is_grant (UpgradeRep rts) = true
is_grant _ = false

-- a load of a line
abbrev pub is_load : Body → Bool
is_load DramLd = true
is_load _ = false

-- the bank has the line, and no core owns it
abbrev pub has_shared : Option Entry → Bool
has_shared None = false
has_shared (Some entry) = is_shared entry

-- a line that no core owned is granted to the requester, who owns it from then on
pub record GrantsLine (bank : BankState) (m sent : Message) (after : BankState) : Type 0 where
  pub shared : has_shared (entry_of bank m.line) ≡ true
  pub requester : sent.to ≡ m.from
  pub line : sent.line ≡ m.line
  pub owned : entry_of after m.line ≡ Some (Exclusive (core_of m.from))

-- a line is granted only if no core owns it
abbrev pub GrantsUnownedLines : Type 0
GrantsUnownedLines =
    (bank after : BankState) (m sent : Message) → 0 < length bank.table.sets → Sends bank m sent after →
    is_grant sent.body ≡ true → GrantsLine bank m sent after

-- a line is loaded only if the bank doesn't have it: not while it is being stored
abbrev pub LoadsAbsentLines : Type 0
LoadsAbsentLines =
    (bank after : BankState) (m sent : Message) → Sends bank m sent after →
    is_load sent.body ≡ true → entry_of bank m.line ≡ None

-- the memory time never falls, and covers the lease of a line that leaves or is stored
pub record RaisesTime (bank : BankState) (line : ℕ) : Type 0 where
  pub before : bank.mts ≤ (evict bank line).1.mts
  pub leased :
      (dirty : Bool) (timed : TimedLine) → entry_of bank line ≡ Some (Shared dirty timed) →
      timed.rts ≤ (evict bank line).1.mts

abbrev pub EvictionsRaiseTime : Type 0
EvictionsRaiseTime = (bank : BankState) (line : ℕ) → RaisesTime bank line

-- a line that comes from DRAM has its words, and both its times are the memory time
abbrev pub FillsAtMemoryTime : Type 0
FillsAtMemoryTime =
    (bank after : BankState) (m : Message) (words : List ℕ) (reaction : Reaction) →
    0 < length bank.table.sets → entry_of bank m.line ≡ Some Loading → m.body ≡ DramLdRep words →
    bank_table bank m ≡ Some (reaction, after) →
    entry_of after m.line ≡ Some (Shared false (record { wts = bank.mts; rts = bank.mts; words = words }))

-- the lease that a message gives a reader, 0 for any other message
abbrev pub lease_told : Body → ℕ
lease_told (ShRep line) = line.rts
lease_told (RenewRep rts) = rts
lease_told _ = 0

-- a reader gets a lease that never falls, and covers a whole lease from the last write and from the reader's time; the
-- line's lease then ends there
pub record IsLeased
    (bank : BankState) (m sent : Message) (after : BankState) (pts : ℕ) (dirty : Bool) (line : TimedLine) : Type 0
  where
    pub covers : Covers line.wts line.rts pts bank.lease (lease_told sent.body)
    pub leased : entry_of after m.line ≡ Some (Shared dirty (record line { rts = lease_told sent.body }))

abbrev pub ReadersAreLeased : Type 0
ReadersAreLeased =
    (bank after : BankState) (m sent : Message) (pts : ℕ) (version : Option ℕ) (dirty : Bool) (line : TimedLine) →
    0 < length bank.table.sets → entry_of bank m.line ≡ Some (Shared dirty line) → m.body ≡ ShReq pts version →
    Sends bank m sent after → IsLeased bank m sent after pts dirty line

-- the version that a request names, if it is a request
abbrev pub version_in : Body → Option (Option ℕ)
version_in (ShReq pts version) = Some version
version_in (ExReq version) = Some version
version_in _ = None

-- a reply with the line
abbrev pub carries_line : Body → Bool
carries_line (ShRep line) = true
carries_line (ExRep line) = true
carries_line _ = false

-- a request of a line that no core owns is answered without words exactly when it names the line's version; so one
-- that names none is always sent them
abbrev pub WordsGoToOtherVersions : Type 0
WordsGoToOtherVersions =
    (bank after : BankState) (m sent : Message) (version : Option ℕ) (dirty : Bool) (line : TimedLine) →
    entry_of bank m.line ≡ Some (Shared dirty line) → version_in m.body ≡ Some version → Sends bank m sent after →
    carries_line sent.body ≡ not (is_version line.wts version)
