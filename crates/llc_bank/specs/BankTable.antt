-- A bank as data, and what each event makes of it.
use Rattle.std.specs.Prelude.{ℕ, ◌/◌, ◌%◌, ◌==◌, max, Bool, true, false, ◌&&◌, ◌||◌, not, is_some, option_map, find}
use Rattle.std.specs.Prelude.{List, length, Option, Some, None, Result, Ok, Err, if◌then◌else◌}
use Rattle.std.specs.List.{list_all}
use Rattle.network.specs.declared.message.Node.{Node}
use Rattle.network.specs.declared.message.Node.TheVariants.{Core, Bank, Dram}
use Rattle.network.specs.declared.message.Body.{Body}
use Rattle.network.specs.declared.message.Body.TheVariants.{ShReq, ExReq, FlushReq, FlushRep, WbRep, DramLd}
use Rattle.network.specs.declared.message.Body.TheVariants.{DramLdRep, DramSt, DramStRep}
use Rattle.network.specs.declared.message.Message.{Message}
use Rattle.network.specs.declared.part.Reaction.{Reaction}
use Rattle.network.specs.declared.part.Reaction.TheVariants.{Done, Dropped, Held, HeldAfter}
use Rattle.line_sets.specs.SetTable.{Sets, set_at, look, put, put_within, drop_line, empty_sets, has_room}
use Rattle.llc_bank.specs.declared.entry.Entry.{Entry}
use Rattle.llc_bank.specs.declared.entry.Entry.TheVariants.{Loading, Exclusive, Recalling, Storing}
use Rattle.llc_bank.specs.declared.entry.Evict.{Evict}
use Rattle.llc_bank.specs.declared.entry.Evict.TheVariants.{Clean, Stored, Recalled}
use Rattle.llc_bank.specs.declared.entry.EvictError.{EvictError}
use Rattle.llc_bank.specs.declared.entry.EvictError.TheVariants.{NotHere, Busy}
use Rattle.llc_bank.specs.declared.decision.Decision.{Decision}
use Rattle.llc_bank.specs.declared.decision.Decision.TheVariants.{Waits, Loads, Recalls, Grants, Becomes, Leaves}
use Rattle.llc_bank.specs.declared.decision.Decision.TheVariants.{TooLate, NoCase}
use Rattle.llc_bank.specs.declared.decision.Eviction.{Eviction}
use Rattle.llc_bank.specs.declared.decision.Eviction.TheVariants.{NotThere, IsBusy, Drops, Stores, AsksBack}
use Rattle.llc_bank.specs.declared.config.BankConfig.{BankConfig}
use Rattle.llc_bank.specs.OnEntry.{at_bank, evicted}
use Rattle.llc_bank.specs.Settled.{is_settled, is_shared}

pub record BankState : Type 0 where
  -- its number, and the numbers that the machine was set up with
  pub number : ℕ
  pub banks : ℕ
  pub lease : ℕ
  -- its memory time
  pub mts : ℕ
  pub table : Sets Entry

-- the set that a line belongs to: its number over the number of banks, and that over the number of sets
abbrev pub set_of : BankState → ℕ → ℕ
set_of bank line = (line / bank.banks) % length bank.table.sets

-- the entry of a line, none if it is absent
abbrev pub entry_of : BankState → ℕ → Option Entry
entry_of bank line = look bank.table.sets (set_of bank line) line

abbrev pub with_sets : BankState → List (List (ℕ × Entry)) → BankState
with_sets bank sets = record bank { table = record (bank.table) { sets = sets } }

-- the entry of a line is this one, now the most recently used of its set
abbrev pub with_used : BankState → ℕ → Entry → BankState
with_used bank line entry = with_sets bank (put bank.table.sets (set_of bank line) line entry)

-- the entry of a line is this one, and the order of use stays
abbrev pub with_changed : BankState → ℕ → Entry → BankState
with_changed bank line entry = with_sets bank (put_within bank.table.sets (set_of bank line) line entry)

-- the bank doesn't have the line
abbrev pub without_entry : BankState → ℕ → BankState
without_entry bank line = with_sets bank (drop_line bank.table.sets (set_of bank line) line)

-- a message of the bank about a line
abbrev pub from_bank : BankState → ℕ → Node → Body → Message
from_bank bank line to body = record { from = Bank bank.number; to = to; line = line; body = body }

-- a message of the bank to the DRAM behind it
abbrev pub to_dram : BankState → ℕ → Body → Message
to_dram bank line body = from_bank bank line (Dram bank.number) body

-- the core that a node is, 0 if it is none
abbrev pub core_of : Node → ℕ
core_of (Core c) = c
core_of _ = 0

-- what a delivered message makes of the bank; an answer goes back to where the message is from
abbrev pub after_decision : BankState → Message → Decision → Option (Reaction × BankState)
after_decision bank m Waits = Some (Held, bank)
after_decision bank m Loads = Some (HeldAfter (to_dram bank m.line DramLd), with_used bank m.line Loading)
after_decision bank m (Recalls owner sent) =
    Some (HeldAfter (from_bank bank m.line (Core owner) sent), with_changed bank m.line (Recalling owner))
after_decision bank m (Grants entry sent) =
    Some (Done (Some (from_bank bank m.line m.from sent)), with_used bank m.line entry)
after_decision bank m (Becomes entry) = Some (Done None, with_changed bank m.line entry)
after_decision bank m Leaves = Some (Done None, without_entry bank m.line)
after_decision bank m TooLate = None
after_decision bank m NoCase = Some (Dropped, bank)

abbrev pub decided : BankState → Message → Decision
decided bank m = at_bank bank.lease bank.mts (has_room bank.table (set_of bank m.line)) (core_of m.from)
    (entry_of bank m.line) m.body

abbrev pub bank_table : BankState → Message → Option (Reaction × BankState)
bank_table bank m = after_decision bank m (decided bank m)

abbrev pub is_owned : Option Entry → Bool
is_owned (Some (Exclusive owner)) = true
is_owned (Some (Recalling owner)) = true
is_owned _ = false

abbrev pub is_core : Node → Bool
is_core (Core c) = true
is_core _ = false

abbrev pub is_this_bank : ℕ → Node → Bool
is_this_bank number (Bank b) = b == number
is_this_bank number _ = false

-- the kinds of message that come to a bank, and when
abbrev pub comes_to_bank : Node → Body → Option Entry → Bool
comes_to_bank from (ShReq pts version) entry = is_core from
comes_to_bank from (ExReq version) entry = is_core from
comes_to_bank from (FlushRep line) entry = is_owned entry
comes_to_bank from (WbRep line) entry = is_owned entry
comes_to_bank from (DramLdRep words) (Some Loading) = true
comes_to_bank from DramStRep (Some Storing) = true
comes_to_bank from _ entry = false

abbrev pub bank_has_case : BankState → Message → Bool
bank_has_case bank m = is_this_bank bank.number m.to && comes_to_bank m.from m.body (entry_of bank m.line)

-- whether a message is a reply of an owner or of DRAM
abbrev pub is_reply : Body → Bool
is_reply (FlushRep line) = true
is_reply (WbRep line) = true
is_reply (DramLdRep words) = true
is_reply DramStRep = true
is_reply _ = false

-- a bank without entries, with this set-up
abbrev pub empty_bank : BankConfig → BankState
empty_bank config = record {
  number = config.number;
  banks = config.banks;
  lease = config.lease;
  mts = config.opening_time;
  table = empty_sets config.sets config.ways;
}

-- what an eviction of a line answers, and the bank afterwards
abbrev pub after_eviction : BankState → ℕ → Eviction → Result Evict EvictError × BankState
after_eviction bank line NotThere = (Err NotHere, bank)
after_eviction bank line IsBusy = (Err Busy, bank)
after_eviction bank line (Drops rts) = (Ok Clean, record (without_entry bank line) { mts = max bank.mts rts })
after_eviction bank line (Stores rts words) = (
  Ok (Stored (to_dram bank line (DramSt words))),
  record (with_changed bank line Storing) { mts = max bank.mts rts },
)
after_eviction bank line (AsksBack owner) =
    (Ok (Recalled (from_bank bank line (Core owner) FlushReq)), with_changed bank line (Recalling owner))

abbrev pub evict : BankState → ℕ → Result Evict EvictError × BankState
evict bank line = after_eviction bank line (evicted (entry_of bank line))

-- the node that an eviction would send a message to, if any
abbrev pub sent_to : Evict → Option Node
sent_to Clean = None
sent_to (Stored sent) = Some sent.to
sent_to (Recalled sent) = Some sent.to

-- what an eviction would answer, by the node that it would send a message to
abbrev pub evict_sends : Result Evict EvictError → Result (Option Node) EvictError
evict_sends (Err error) = Err error
evict_sends (Ok done) = Ok (sent_to done)

-- nothing is under way for any line of a set
abbrev pub all_settled : List (ℕ × Entry) → Bool
all_settled entries = list_all (λ e. is_settled e.1) entries

-- the line of the first entry, the least recently used one, that passes a test
abbrev pub first_of : (Entry → Bool) → List (ℕ × Entry) → Option ℕ
first_of test entries = option_map (λ e. e.0) (find (λ e. test e.1) entries)

-- the first of two lines, or the second if there is no first
abbrev pub or_else : Option ℕ → Option ℕ → Option ℕ
or_else None other = other
or_else (Some line) other = Some line

-- the line to evict to make room in a set: the least recently used one that no core owns, or else the least recently
-- used one
abbrev pub chosen : List (ℕ × Entry) → Option ℕ
chosen entries = or_else (first_of is_shared entries) (first_of is_settled entries)

-- the line to evict for a request of a line that waits for room, if nothing is under way in its set
abbrev pub make_room : BankState → ℕ → Option ℕ
make_room bank line =
    let set = set_of bank line in
    if is_some (entry_of bank line) || has_room bank.table set || not (all_settled (set_at bank.table.sets set))
    then None
    else chosen (set_at bank.table.sets set)
