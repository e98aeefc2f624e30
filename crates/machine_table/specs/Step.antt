-- What a step of one part is answered, whether it consumes the delivered message, what it sends and what it leaves,
-- wherever the messages are. The machine's table, the moves of its states and the changes of its seats stand on these.
use Rattle.std.specs.Prelude.{◌≡◌, ℕ, ◌-◌, Bool, true, false, List, Option, Some, None, Result, Ok, Err}
use Rattle.std.specs.Ordering.{nat_cmp}
use Rattle.std.specs.FinMap.{FinMap}
use Rattle.physiological_order.specs.declared.operation.Op.{Op}
use Rattle.physiological_order.specs.declared.operation.Record.{Record}
use Rattle.network.specs.declared.message.Body.{Body}
use Rattle.network.specs.declared.message.Body.TheVariants.{ShReq, ExReq}
use Rattle.network.specs.declared.message.Message.{Message}
use Rattle.network.specs.declared.part.Reaction.{Reaction}
use Rattle.network.specs.declared.part.Reaction.TheVariants as reaction
use Rattle.private_cache.specs.declared.cache.CacheError.{CacheError}
use Rattle.private_cache.specs.declared.cache.CacheError.TheVariants as not_left
use Rattle.core_pts.specs.declared.attempt.Attempt.{Attempt}
use Rattle.core_pts.specs.declared.attempt.Attempt.TheVariants as tries
use Rattle.core_pts.specs.CoreTable as core_table
use Rattle.core_pts.specs.CoreTable.{CoreState, line_of, to_bank}
use Rattle.llc_bank.specs.declared.entry.Evict.{Evict}
use Rattle.llc_bank.specs.declared.entry.Evict.TheVariants as evict
use Rattle.llc_bank.specs.declared.entry.EvictError.{EvictError}
use Rattle.llc_bank.specs.declared.entry.EvictError.TheVariants as not_evicted
use Rattle.llc_bank.specs.BankTable as bank_table
use Rattle.llc_bank.specs.BankTable.{BankState}
use Rattle.dram_mts.specs.Table.{dram_table}
use Rattle.machine_table.specs.declared.event.Answer.{Answer}
use Rattle.machine_table.specs.declared.event.Answer.TheVariants.{Requested, Waiting, Idle, Delivered, Held, Started}
use Rattle.machine_table.specs.declared.event.Answer.TheVariants.{Evicted, Recalled, Advanced, Refused}
use Rattle.machine_table.specs.declared.event.Refusal.TheVariants.{Busy, NoSuch, NoRoom, Pinned}

pub data Step (S : Type 0) : Type 0 where
  -- a sum of times doesn't fit
  Exhausts : Step S
  -- nothing changes, and this is answered
  Keeps : (answer : Answer) → Step S
  -- the delivered message is consumed, and the part stays as it is
  Drops : Step S
  -- the answer, whether the delivered message is consumed, the message that is sent, if any, and the part afterwards
  Makes : (answer : Answer) (consumes : Bool) (sends : Option Message) (part : S) → Step S

-- what an attempt comes to: the open operation is completed, with what it receives and its time, or this is done
pub data Tried : Type 0 where
  Completes : (op : Op) (received : Option ℕ) (ts : ℕ) (after : CoreState) → Tried
  Does : (step : Step CoreState) → Tried

-- the record of a completed operation: its place is how many operations its core was issued before
abbrev pub record_of : ℕ → ℕ → CoreState → Op → Option ℕ → ℕ → Record
record_of c number core op received ts =
    record { core = c; place = core.issued - 1; op = op; received = received; ts = ts; number = number }

-- a core sends the bank of its operation's line a request
abbrev pub asks : CoreState → Op → Body → Step CoreState
asks core op body = Makes Requested false (Some (to_bank core (line_of core op) body)) (record core { is_out = true })

-- an attempt at the open operation, by what the core's table says
abbrev pub attempted : CoreState → Op → Option Attempt × CoreState → Tried
attempted core op (None, after) = Does Exhausts
attempted core op (Some (tries.Completed received ts), after) = Completes op received ts after
attempted core op (Some (tries.NeedShared pts version), after) = Does (asks core op (ShReq pts version))
attempted core op (Some (tries.NeedExclusive version), after) = Does (asks core op (ExReq version))
attempted core op (Some tries.NoRoom, after) = Does (Keeps (Refused NoRoom))
attempted core op (Some tries.Waiting, after) = Does (Keeps Waiting)
attempted core op (Some tries.Idle, after) = Does (Keeps Idle)

abbrev pub attempt_open : CoreState → Option Op → Tried
attempt_open core None = Does (Keeps Idle)
attempt_open core (Some op) = attempted core op (core_table.attempt core)

-- a message is delivered, by what its part's table says
abbrev pub reacted : {S : Type 0} → Option (Reaction × S) → Step S
reacted None = Exhausts
reacted (Some (reaction.Held, part)) = Keeps Held
reacted (Some (reaction.Dropped, part)) = Drops
reacted (Some (reaction.Done reply, part)) = Makes Delivered true reply part
reacted (Some (reaction.HeldAfter started, part)) = Makes Started false (Some started) part

-- a part that holds or drops a message stays as it is
abbrev pub Stays : {S : Type 0} → S → Option (Reaction × S) → Type 0
Stays part (Some (reaction.Held, after)) = after ≡ part
Stays part (Some (reaction.Dropped, after)) = after ≡ part
Stays part _ = Unit {0}

-- a copy of a line leaves a core's cache: one that is owned is sent back
abbrev pub copy_evicted : Result (Option Message) CacheError × CoreState → Step CoreState
copy_evicted (Err not_left.Pinned, core) = Keeps (Refused Pinned)
copy_evicted (Err _, core) = Keeps (Refused NoSuch)
copy_evicted (Ok back, core) = Makes Evicted false back core

-- a line leaves a bank, or is recalled for that
abbrev pub entry_evicted : Result Evict EvictError × BankState → Step BankState
entry_evicted (Err not_evicted.NotHere, bank) = Keeps (Refused NoSuch)
entry_evicted (Err not_evicted.Busy, bank) = Keeps (Refused Busy)
entry_evicted (Ok evict.Clean, bank) = Makes Evicted false None bank
entry_evicted (Ok (evict.Stored store), bank) = Makes Evicted false (Some store) bank
entry_evicted (Ok (evict.Recalled recall), bank) = Makes Recalled false (Some recall) bank

-- a core's time goes on by itself
abbrev pub advanced : Option (Unit {0}) × CoreState → Step CoreState
advanced (None, core) = Exhausts
advanced (Some done, core) = Makes Advanced false None core

-- what a part does: banks get messages and evict lines alone, and DRAMs get messages alone
pub data Act : Type 0 where
  Attempting : Act
  Getting : (message : Message) → Act
  Evicting : (line : ℕ) → Act
  Advancing : Act

-- the message that is delivered, if any
abbrev pub message_of : Act → Option Message
message_of (Getting message) = Some message
message_of _ = None

abbrev pub core_step : CoreState → Act → Tried
core_step core Attempting = attempt_open core core.open_op
core_step core (Getting message) = Does (reacted (core_table.core_table core message))
core_step core (Evicting line) = Does (copy_evicted (core_table.evict core line))
core_step core Advancing = Does (advanced (core_table.advance core))

abbrev pub bank_step : BankState → Act → Step BankState
bank_step bank (Getting message) = reacted (bank_table.bank_table bank message)
bank_step bank (Evicting line) = entry_evicted (bank_table.evict bank line)
bank_step bank _ = Keeps Idle

abbrev pub dram_step : FinMap nat_cmp (List ℕ) → Act → Step (FinMap nat_cmp (List ℕ))
dram_step lines (Getting message) = reacted (dram_table lines message)
dram_step lines _ = Keeps Idle
