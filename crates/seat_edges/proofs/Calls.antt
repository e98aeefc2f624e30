-- What the calls of a turn do to the messages of a seat of either kind.
use Rattle.std.proofs.Common.{◌≡◌, Bool, is_some, List, Result, arith}
use Rattle.std.proofs.lemmas.Bool.Decides.{nat_tests}
use Rattle.network.specs.declared.message.Message.{Message}
use Rattle.machine_table.specs.declared.event.Refusal.{Refusal}
use Rattle.inbox.specs.declared.answer.Served.{Served}
use Rattle.seat_rule.specs.declared.views.SetUp.{SetUp}
use Rattle.mailboxes.specs.declared.machine.Machine.{Machine}
use Rattle.mailboxes.specs.declared.mailbox.Mailbox.{Mailbox}
use Rattle.mailboxes.specs.declared.core_seat.CoreSeat.{CoreSeat}
use Rattle.mailboxes.specs.declared.bank_seat.BankSeat.{BankSeat}
use Rattle.mailboxes.specs.declared.taken.Take.{Take}
use Rattle.mailboxes.specs.BankTurns.{BankPuts, BankServes, BankTakes}
use Rattle.mailboxes.specs.BoxMoves.{Puts, Stays, Takes, hold}
use Rattle.mailboxes.specs.CoreTurns.{CorePuts, CoreServes, CoreTakes}

-- what was looked at, put and taken stays, and where the next look begins
pub record KeepsBox (p q : Mailbox) : Type 0 where
  pub looks : (hold q).looks ≡ (hold p).looks
  pub put : (hold q).put ≡ (hold p).put
  pub taken : (hold q).taken ≡ (hold p).taken
  pub cursor : q.cursor ≡ p.cursor
  pub number : q.number ≡ p.number

-- the mailbox of a seat and the messages of its outbox, and what a put, a serving and a take of the seat do to them
pub record Calls {S : Type 0} (z : SetUp) (mail : S → Mailbox) (out : S → List Message)
    (puts : Bool → S → S → Type 0) (serves : Result Served Refusal → S → S → Type 0) (takes : Take → S → S → Type 0) :
    Type 0 where
  pub put : (done : Bool) (p q : S) → puts done p q →
      Stays (mail p) (mail q) × Puts done (mail p) (out p) (mail q) (out q)
  pub serve : (told : Result Served Refusal) (p q : S) → serves told p q → KeepsBox (mail p) (mail q)
  pub take : (t : Take) (p q : S) → takes t p q → Stays (mail p) (mail q) × Takes z t (mail p) (mail q)

pub core_calls : (m : Machine) →
    Calls m.set_up (λ (p : CoreSeat). p.mail) (λ p. p.part.outbox.messages) (CorePuts m) (CoreServes m) (CoreTakes m)
core_calls m = grind (arith, nat_tests)

pub bank_calls : (m : Machine) →
    Calls m.set_up (λ (p : BankSeat). p.mail) (λ p. p.part.outbox.messages) (BankPuts m) (BankServes m) (BankTakes m)
bank_calls m = grind (arith, nat_tests)

-- whether the hand is full
abbrev pub full : {S : Type 0} → (S → Mailbox) → S → Bool
full mail s = is_some (mail s).inbox.hand
