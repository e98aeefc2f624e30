-- What each call of a seat did, in the words of the contracts of `mailboxes`.
use Rattle.std.specs.Prelude.{◌≡◌, ◌≢◌, ◌||◌, ◌++◌, ◌∷◌, [], ℕ, is_none, Option, Some, None}
use Rattle.std.specs.Prelude.{Result, Ok, Err, OnOk, OnErr}
use Rattle.physiological_order.specs.declared.operation.Op.{Op}
use Rattle.physiological_order.specs.declared.operation.Record.{Record}
use Rattle.private_cache.specs.CopyTable.{victim_for}
use Rattle.core_pts.specs.CoreTable as core_table
use Rattle.core_pts.specs.CoreTable.{line_of}
use Rattle.llc_bank.specs.BankTable as bank_table
use Rattle.machine_table.specs.declared.event.Answer.{Answer}
use Rattle.machine_table.specs.declared.event.Answer.TheVariants as answer
use Rattle.machine_table.specs.declared.event.Refusal.{Refusal}
use Rattle.machine_table.specs.declared.event.Refusal.TheVariants.{NoMemory}
use Rattle.mailboxes.specs.declared.machine.Machine.{Machine}
use Rattle.mailboxes.specs.declared.core_seat.CoreSeat.{CoreSeat}
use Rattle.mailboxes.specs.declared.bank_seat.BankSeat.{BankSeat}
use Rattle.mailboxes.specs.declared.bank_evicting.Eviction.{Eviction}
use Rattle.mailboxes.specs.Attempts.{Attempts}
use Rattle.mailboxes.specs.BankCalls as bank_calls
use Rattle.mailboxes.specs.BankCalls.{SameBankPlace, first_room}
use Rattle.mailboxes.specs.BoxMoves.{hold}
use Rattle.mailboxes.specs.CoreCalls.{IssueAnswers, SameHold, SamePlace, advance_answer, core_hold, sending_hold}
use Rattle.mailboxes.specs.Evictions.{core_evict_answer, evicted_by_core}
use Rattle.mailboxes.specs.Stored.{stored_bank}

-- a core was given an operation, or not
pub record CoreIssued (op : Op) (result : Result (Unit {0}) Refusal) (p q : CoreSeat) : Type 0 where
  pub place : SamePlace p q
  pub outbox : q.part.outbox ≡ p.part.outbox
  pub answer : IssueAnswers p.is_stopped (core_table.issue p.part.core op).0 result
  pub done : OnOk result (hold q.mail ≡ core_hold (hold p.mail) (core_table.issue p.part.core op).1
      (p.issued.items ++ op ∷ []))
  pub refused : OnErr result (hold q.mail ≡ hold p.mail)
  pub stopped : q.is_stopped ≡ p.is_stopped

-- a core advanced its time by 1, or not
pub record CoreAdvanced (result : Result (Unit {0}) Refusal) (p q : CoreSeat) : Type 0 where
  pub place : SamePlace p q
  pub outbox : q.part.outbox ≡ p.part.outbox
  pub answer : result ≡ advance_answer p.is_stopped (core_table.advance p.part.core).0
  pub done : OnOk result (hold q.mail ≡ core_hold (hold p.mail) (core_table.advance p.part.core).1 p.issued.items)
  pub refused : OnErr result (hold q.mail ≡ hold p.mail)
  pub stopped : q.is_stopped ≡ (p.is_stopped || is_none (core_table.advance p.part.core).0)

-- an open operation was attempted
pub record CoreAttempted (m : Machine) (given : Answer) (p q : CoreSeat) : Type 0 where
  pub place : SamePlace p q
  pub attempt : Attempts m p given q
  pub sure : given ≢ answer.Refused NoMemory

-- what an attempt did: the record if the operation was completed, none if it waits, or why it was refused
abbrev pub came_to : Answer → Result (Option Record) Refusal
came_to (answer.Completed r) = Ok (Some r)
came_to (answer.Refused refusal) = Err refusal
came_to _ = Ok None

abbrev pub Attempted : Machine → Result (Option Record) Refusal → CoreSeat → CoreSeat → Type 0
Attempted m result p q = (given : Answer) × (result ≡ came_to given) × CoreAttempted m given p q

-- a core's copy of a line was evicted, or not
pub record CoreEvicted (line : ℕ) (result : Result (Unit {0}) Refusal) (p q : CoreSeat) : Type 0 where
  pub place : SamePlace p q
  pub answer : result ≡ core_evict_answer p.is_stopped p.part line
  pub part : OnOk result (q.part ≡ (evicted_by_core p.part line).1)
  pub done : OnOk result (hold q.mail ≡ sending_hold (hold p.mail) q.part.core q.part.outbox)
  pub refused : OnErr result (SameHold p q)
  pub stopped : q.is_stopped ≡ p.is_stopped
  pub sure : result ≢ Err NoMemory

-- the victim of a line, if there is one, was evicted, or not; otherwise the seat is as before
abbrev pub VictimLeft : Option ℕ → CoreSeat → CoreSeat → Type 0
VictimLeft None p q = q ≡ p
VictimLeft (Some line) p q = (result : Result (Unit {0}) Refusal) × CoreEvicted line result p q

-- the victim of the line of an operation
abbrev pub victim_of_seat : CoreSeat → Option Op → Option ℕ
victim_of_seat p None = None
victim_of_seat p (Some op) = victim_for p.part.core.cache (line_of p.part.core op)

-- that of the line of the open operation
abbrev pub PlaceMade : CoreSeat → CoreSeat → Type 0
PlaceMade p q = VictimLeft (victim_of_seat p p.part.core.open_op) p q

-- a line of a bank was evicted, or not
pub record BankEvicted (line : ℕ) (result : Result Eviction Refusal) (p q : BankSeat) : Type 0 where
  pub place : SameBankPlace p q
  pub answer : result ≡ bank_calls.bank_evict_answer p.is_stopped p.part.outbox p.mail.inbox.held
      (bank_table.evict p.part.bank line).0
  pub done : OnOk result (bank_calls.Evicts (bank_table.evict p.part.bank line) p.mail.inbox p.part q.mail.inbox q.part)
  pub refused : OnErr result ((q.mail.inbox ≡ p.mail.inbox) × (q.part ≡ p.part))
  pub holds : hold q.mail ≡ stored_bank (hold p.mail) q.part q.mail.inbox
  pub stopped : q.is_stopped ≡ p.is_stopped
  pub memory : result ≢ Err NoMemory

-- a line, if there is one, was evicted, or not; otherwise the seat is as before
abbrev pub LineLeft : Option ℕ → BankSeat → BankSeat → Type 0
LineLeft None p q = q ≡ p
LineLeft (Some line) p q = (result : Result Eviction Refusal) × BankEvicted line result p q

-- that which makes room for the oldest held request that waits for room
abbrev pub RoomMade : BankSeat → BankSeat → Type 0
RoomMade p q = LineLeft (first_room p.part.bank p.mail.inbox.held) p q
