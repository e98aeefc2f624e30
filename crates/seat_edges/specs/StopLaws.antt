-- A lease that would end at a time that doesn't fit 64 bits stops the seat that would give it.
use Rattle.std.specs.Prelude.{◌≡◌, ℕ, ◌+◌, ◌≤◌, ◌⊎◌, Bool, true, false, Option, Some, Result, Err}
use Rattle.network.specs.declared.message.TimedLine.{TimedLine}
use Rattle.network.specs.declared.message.Body.TheVariants.{ShReq, WbReq}
use Rattle.network.specs.declared.message.Message.{Message}
use Rattle.private_cache.specs.declared.line_copy.LineCopy.{LineCopy}
use Rattle.llc_bank.specs.declared.entry.Entry.TheVariants.{Shared, Exclusive}
use Rattle.llc_bank.specs.BankTable.{entry_of}
use Rattle.machine_table.specs.declared.event.Refusal.{Refusal}
use Rattle.machine_table.specs.declared.event.Refusal.TheVariants.{Exhausted}
use Rattle.inbox.specs.declared.answer.Served.{Served}
use Rattle.inbox.specs.Inboxes.{InboxState}
use Rattle.mailboxes.specs.declared.machine.Machine.{Machine}
use Rattle.mailboxes.specs.declared.core_seat.CoreSeat.{CoreSeat}
use Rattle.mailboxes.specs.declared.bank_seat.BankSeat.{BankSeat}
use Rattle.seat_edges.specs.BankPlaceLaws.{asked}
use Rattle.mailboxes.specs.BankTurns.{BankServes}
use Rattle.mailboxes.specs.CoreTurns.{CoreServes}
use Rattle.seat_edges.specs.PlaceLaws.{Owns}

-- the time doesn't fit
abbrev pub IsLate : ℕ → Type 0
IsLate time = 18446744073709551616 ≤ time

-- the answer is Exhausted and the seat is stopped; its messages and its part are as before
pub record StopsSeat {P : Type 0} (result : Result Served Refusal) (stopped : Bool) (b c : InboxState Message)
    (p q : P) :
    Type 0 where
  pub answer : result ≡ Err Exhausted
  pub is_stopped : stopped ≡ true
  pub messages : c ≡ b
  pub part : q ≡ p

-- a request to read is in the hand, and the lease of a line that no core owns would end too late
abbrev pub LateReadersStop : Type 0
LateReadersStop =
    (m : Machine) (p q : BankSeat) (result : Result Served Refusal) (core bank line pts : ℕ) (version : Option ℕ)
    (dirty : Bool) (timed : TimedLine) → p.is_stopped ≡ false →
    p.mail.inbox.hand ≡ Some (asked core bank line (ShReq pts version)) →
    entry_of p.part.bank line ≡ Some (Shared dirty timed) →
    IsLate (timed.wts + p.part.bank.lease) ⊎ IsLate (pts + p.part.bank.lease) → BankServes m result p q →
    StopsSeat result q.is_stopped p.mail.inbox q.mail.inbox p.part q.part

-- or the lease that its owner would be asked to keep
abbrev pub LateRecallsStop : Type 0
LateRecallsStop =
    (m : Machine) (p q : BankSeat) (result : Result Served Refusal) (core bank line pts owner : ℕ)
    (version : Option ℕ) → p.is_stopped ≡ false →
    p.mail.inbox.hand ≡ Some (asked core bank line (ShReq pts version)) →
    entry_of p.part.bank line ≡ Some (Exclusive owner) → IsLate (pts + p.part.bank.lease) → BankServes m result p q →
    StopsSeat result q.is_stopped p.mail.inbox q.mail.inbox p.part q.part

-- a core is asked for the words of a line that it owns, and the lease of the copy that would stay would end too late
abbrev pub LateReturnsStop : Type 0
LateReturnsStop =
    (m : Machine) (p q : CoreSeat) (result : Result Served Refusal) (x : Message) (until : ℕ) (copy : LineCopy) →
    p.is_stopped ≡ false → p.mail.inbox.hand ≡ Some x → x.body ≡ WbReq until → Owns p.part.core x.line copy →
    IsLate (copy.wts + p.part.core.lease) → CoreServes m result p q →
    StopsSeat result q.is_stopped p.mail.inbox q.mail.inbox p.part q.part
