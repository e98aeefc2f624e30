-- A turn with a full hand takes nothing.
use Rattle.std.proofs.Common.{◌≡◌, ℕ, Bool, true, false, is_some, List, Option, Some, Result, refl, ap, ◌∙◌}
use Rattle.network.specs.declared.message.Message.{Message}
use Rattle.machine_table.specs.declared.event.Refusal.{Refusal}
use Rattle.inbox.specs.declared.answer.Served.{Served}
use Rattle.seat_rule.specs.declared.views.SetUp.{SetUp}
use Rattle.mailboxes.specs.declared.mailbox.Mailbox.{Mailbox}
use Rattle.mailboxes.specs.declared.taken.Take.{Take}
use Rattle.mailboxes.specs.declared.turning.Turn.{Turn}
use Rattle.mailboxes.specs.BoxMoves.{Puts, SameIncoming, hold}
use Rattle.mailboxes.specs.Turns.{Turns}
use Rattle.seat_edges.specs.TurnLaws.{FullBankHandsTakeNothing, FullCoreHandsTakeNothing, TookNothing}
use Rattle.seat_edges.proofs.Calls.{Calls, bank_calls, core_calls, full}
use Rattle.seat_edges.proofs.Turns.{with-full}

-- what every put keeps
pub came_in : (done : Bool) (p q : Mailbox) (out left : List Message) → Puts done p out q left → SameIncoming p q
came_in true p q out left e = e.3.5
came_in false p q out left e = e.3

-- what is kept until the serving
record Kept (xs : List (ℕ × Message)) (at : ℕ) (x : Option Message) (p : Mailbox) : Type 0 where
  taken : (hold p).taken ≡ xs
  cursor : p.cursor ≡ at
  hand : p.inbox.hand ≡ x

module _ {S : Type 0} {z : SetUp} {mail : S → Mailbox} {out : S → List Message} {puts : Bool → S → S → Type 0}
    {serves : Result Served Refusal → S → S → Type 0} {takes : Take → S → S → Type 0}
    (calls : Calls z mail out puts serves takes) where
  full_hands : (p q : S) (result : Result Turn Refusal) (x : Message) → (mail p).inbox.hand ≡ Some x →
      Turns serves takes (full mail) puts p result q → TookNothing (mail p) (mail q)
  full_hands p q result x hand turns =
      let taken = (hold (mail p)).taken in
      let cursor = (mail p).cursor in
      with-full serves takes (full mail) puts (λ s. Kept taken cursor (Some x) (mail s))
      (λ done r s put k.
      let same = came_in done (mail r) (mail s) (out r) (out s) (calls.put done r s put).1 in
      record { taken = same.taken ∙ k.taken; cursor = same.cursor ∙ k.cursor; hand = same.hand ∙ k.hand })
      (λ s. ((hold (mail s)).taken ≡ taken) × ((mail s).cursor ≡ cursor))
      (λ s k. ap is_some k.hand)
      (λ told r s served k.
      let same = calls.serve told r s served in (same.taken ∙ k.taken, same.cursor ∙ k.cursor))
      p q result turns (record { taken = refl; cursor = refl; hand = hand })

pub full_cores : FullCoreHandsTakeNothing
full_cores m p q result x hand turns = full_hands (core_calls m) p q result x hand turns

pub full_banks : FullBankHandsTakeNothing
full_banks m p q result x hand turns = full_hands (bank_calls m) p q result x hand turns
