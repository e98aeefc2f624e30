-- What a turn of a seat did, which calls of the seat it made, and what it reported.
use Rattle.std.specs.Prelude.{◌≡◌, ◌&&◌, ◌||◌, not, nat_lt, Bool, true, false, Option, Some, None, Result, Ok, Err}
use Rattle.physiological_order.specs.declared.operation.Op.{Op}
use Rattle.physiological_order.specs.declared.operation.Record.{Record}
use Rattle.machine_table.specs.declared.event.Refusal.{Refusal}
use Rattle.machine_table.specs.declared.event.Refusal.TheVariants as refusal
use Rattle.inbox.specs.declared.answer.Served.{Served}
use Rattle.inbox.specs.declared.answer.Served.TheVariants as served
use Rattle.mailboxes.specs.declared.machine.Machine.{Machine}
use Rattle.mailboxes.specs.declared.core_seat.CoreSeat.{CoreSeat}
use Rattle.mailboxes.specs.declared.bank_seat.BankSeat.{BankSeat}
use Rattle.mailboxes.specs.declared.turning.Turn.{Turn}
use Rattle.mailboxes.specs.BankTurns.{BankTurns}
use Rattle.mailboxes.specs.CoreTurns.{CoreTurns}
use Rattle.programs.specs.declared.steps.Step.{Step}
use Rattle.programs.specs.declared.steps.Step.TheVariants as step
use Rattle.programs.specs.Acts.{Acts}
use Rattle.thread_driver.specs.declared.told.Told.{Told}
use Rattle.thread_driver.specs.Calls.{Attempted, CoreAdvanced, CoreIssued, PlaceMade, RoomMade}

-- What is reported

-- whether a message was consumed, or something was started for one
abbrev pub is_served : Served → Bool
is_served served.Delivered = true
is_served served.Dropped = true
is_served served.Started = true
is_served served.Held = false
is_served served.Nothing = false

-- whether messages were put, or one was served
abbrev pub has_moved : Result Turn Refusal → Bool
has_moved (Ok turn) = nat_lt 0 turn.put || is_served turn.served
has_moved (Err r) = false

-- whether a refusal is a failed allocation
abbrev pub wants_memory : Refusal → Bool
wants_memory refusal.NoMemory = true
wants_memory _ = false

-- whether a call was refused for that
abbrev pub lacks_memory : {A : Type 0} → Result A Refusal → Bool
lacks_memory (Ok x) = false
lacks_memory (Err r) = wants_memory r

-- whether a step was done
abbrev pub is_done : Result Bool Refusal → Bool
is_done (Ok done) = done
is_done (Err r) = false

-- whether a seat has stopped that was stopped or not before and after
abbrev pub has_stopped : Bool → Bool → Bool
has_stopped before after = after && not before

-- what is reported of a seat that was stopped or not before and after, by what its turn answered
abbrev pub told_of_turn : Bool → Bool → Result Turn Refusal → Told
told_of_turn before after moved =
    record {
      no_memory = lacks_memory moved;
      is_exhausted = has_stopped before after;
      has_progressed = has_moved moved;
    }

-- and by what its program's step did
abbrev pub told_of : Bool → Bool → Result Bool Refusal → Result Turn Refusal → Told
told_of before after done moved =
    record {
      no_memory = lacks_memory moved || lacks_memory done;
      is_exhausted = has_stopped before after;
      has_progressed = has_moved moved || is_done done;
    }

-- What is done

-- For a refusal of an attempt: if there is no room for the line, its victim is evicted, and no step is done. Any other
-- refusal is reported.
abbrev pub AfterRefusal : Refusal → CoreSeat → Result Bool Refusal → CoreSeat → Type 0
AfterRefusal refusal.NoRoom p done q = (done ≡ Ok false) × PlaceMade p q
AfterRefusal r p done q = (done ≡ Err r) × (q ≡ p)

module _ {P : Type 0} (acts : Acts P) where
  -- After an attempt: the program receives what a completed operation did. If the operation waits, nothing is done.
  abbrev pub AfterAttempt : Result (Option Record) Refusal → CoreSeat → P → Result Bool Refusal → CoreSeat → P → Type 0
  AfterAttempt (Ok (Some r)) p before done q after =
      (done ≡ Ok true) × (q ≡ p) × (after ≡ acts.done before r.received)
  AfterAttempt (Ok None) p before done q after = (done ≡ Ok false) × (q ≡ p) × (after ≡ before)
  AfterAttempt (Err r) p before done q after = AfterRefusal r p done q × (after ≡ before)

  -- the open operation is attempted
  abbrev pub OpenTried : Machine → CoreSeat → P → Result Bool Refusal → CoreSeat → P → Type 0
  OpenTried m p before done q after =
      (result : Result (Option Record) Refusal) × (r : CoreSeat) × Attempted m result p r
      × AfterAttempt result r before done q after

  -- an operation is issued, and then attempted if that wasn't refused
  abbrev pub AfterIssue : Machine → Result (Unit {0}) Refusal → CoreSeat → P → Result Bool Refusal → CoreSeat → P →
      Type 0
  AfterIssue m (Ok issued) p before done q after = OpenTried m p before done q after
  AfterIssue m (Err r) p before done q after = (done ≡ Err r) × (q ≡ p) × (after ≡ before)

  abbrev pub OpIssued : Machine → Op → CoreSeat → P → Result Bool Refusal → CoreSeat → P → Type 0
  OpIssued m op p before done q after =
      (result : Result (Unit {0}) Refusal) × (r : CoreSeat) × CoreIssued op result p r
      × AfterIssue m result r before done q after

  -- the core advances, and its program goes on if that wasn't refused
  abbrev pub AfterAdvance : Result (Unit {0}) Refusal → P → Result Bool Refusal → P → Type 0
  AfterAdvance (Ok advanced) before done after = (done ≡ Ok true) × (after ≡ acts.done before None)
  AfterAdvance (Err r) before done after = (done ≡ Err r) × (after ≡ before)

  abbrev pub TimeAdvanced : CoreSeat → P → Result Bool Refusal → CoreSeat → P → Type 0
  TimeAdvanced p before done q after =
      (result : Result (Unit {0}) Refusal) × CoreAdvanced result p q × AfterAdvance result before done after

  -- with no open operation, the program's next step is done, if there is one
  abbrev pub NextDone : Machine → Option Step → CoreSeat → P → Result Bool Refusal → CoreSeat → P → Type 0
  NextDone m None p before done q after = (done ≡ Ok false) × (q ≡ p) × (after ≡ before)
  NextDone m (Some step.Advance) p before done q after = TimeAdvanced p before done q after
  NextDone m (Some (step.Op op)) p before done q after = OpIssued m op p before done q after

  -- what is done first in a core's turn: an open operation is attempted, or else the next step is done
  abbrev pub StepDone : Machine → Option Op → CoreSeat → P → Result Bool Refusal → CoreSeat → P → Type 0
  StepDone m (Some op) p before done q after = OpenTried m p before done q after
  StepDone m None p before done q after = NextDone m (acts.next before) p before done q after

  -- A core's seat had a turn with its program: first a step was done, and then the seat had its own turn. The turn
  -- reports the result of both, and whether the seat stopped.
  pub record CoreHadTurn (m : Machine) (p : CoreSeat) (before : P) (told : Told) (q : CoreSeat) (after : P) : Type 0
    where
      pub done : Result Bool Refusal
      pub between : CoreSeat
      pub moved : Result Turn Refusal
      pub step_done : StepDone m p.part.core.open_op p before done between after
      pub turned : CoreTurns m between moved q
      pub told_is : told ≡ told_of p.is_stopped q.is_stopped done moved

-- a bank's seat had a turn: first room was made, and then the seat had its own turn
pub record BankHadTurn (m : Machine) (p : BankSeat) (told : Told) (q : BankSeat) : Type 0 where
  pub between : BankSeat
  pub moved : Result Turn Refusal
  pub room_made : RoomMade p between
  pub turned : BankTurns m between moved q
  pub told_is : told ≡ told_of_turn p.is_stopped q.is_stopped moved

-- room was made if that was due, and otherwise the seat is as before
abbrev pub RoomMadeIf : Bool → BankSeat → BankSeat → Type 0
RoomMadeIf true p q = RoomMade p q
RoomMadeIf false p q = q ≡ p

-- a bank's seat had a fair turn: first the seat had its own turn, and then room was made if that made no progress
pub record BankHadFairTurn (m : Machine) (p : BankSeat) (told : Told) (q : BankSeat) : Type 0 where
  pub between : BankSeat
  pub moved : Result Turn Refusal
  pub turned : BankTurns m p moved between
  pub room_made : RoomMadeIf (not (has_moved moved)) between q
  pub told_is : told ≡ told_of_turn p.is_stopped q.is_stopped moved

-- a turn of a bank's seat, fair or not
abbrev pub BankHad : Bool → Machine → BankSeat → Told → BankSeat → Type 0
BankHad false = BankHadTurn
BankHad true = BankHadFairTurn
