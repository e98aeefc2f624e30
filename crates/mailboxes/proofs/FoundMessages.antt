-- What is known of the messages of a seat that holds a part of a reached state.
use Rattle.std.proofs.Common.{◌≡◌, ℕ, true, List, ◌∷◌, ap, ◌∙◌}
use Rattle.std.specs.Prelude.{Bool, slice_get}
use Rattle.network.specs.declared.message.Message.{Message}
use Rattle.network.specs.Routes.{has_endpoints}
use Rattle.machine_theorem.specs.Bags.{SameBag}
use Rattle.inbox.specs.Inboxes.{InboxState}
use Rattle.inbox.specs.Serving.{Place, in_hand, held_at, HaveCases}
use Rattle.inbox.specs.Effects.{LiesAt}
use Rattle.seat_rule.specs.declared.views.Hold.{Hold}
use Rattle.seat_rule.specs.Found.{FindsHere, MessagesFindParts}
use Rattle.seat_rule.specs.Plays.{Standing}
use Rattle.seat_rule.specs.Rule.{bag_of_hold, seat_count}
use Rattle.mailboxes.specs.declared.machine.Machine.{Machine}
use Rattle.mailboxes.specs.declared.mailbox.Mailbox.{Mailbox}
use Rattle.mailboxes.specs.BoxMoves.{IsAt, Stands, hold}
use Rattle.mailboxes.specs.Places.{is_own}

-- each one that came in is the seat's own
pub lies_own : (b : Mailbox) (at : Place) (x : Message) → LiesAt b.inbox at x → is_own b.cores b.number x.to ≡ true
lies_own b in_hand x lies = b.own.hand x lies
lies_own b (held_at k) x lies = b.own.held k x lies

-- the part has a case for each of them
pub have_cases : {P : Type 0} (has_case : P → Message → Bool) (b : InboxState Message) (p : P) →
    ((at : Place) (x : Message) → LiesAt b at x → has_case p x ≡ true) → HaveCases has_case b p
have_cases has_case b p each = record { hand = λ x e. each in_hand x e; held = λ k x e. each (held_at k) x e }

module _ (found : MessagesFindParts) (m : Machine) (b : Mailbox) where
  -- it finds its part there
  pub finds : Stands m b → (at : Place) (x : Message) → LiesAt b.inbox at x →
      FindsHere m.set_up b.number (hold b) x
  finds stands in_hand x lies =
      found.hand m.set_up (seat_count m.set_up) b.number (hold b) m.good stands x (b.tied.hand ∙ lies)
  finds stands (held_at k) x lies =
      found.held m.set_up (seat_count m.set_up) b.number (hold b) m.good stands k x
      (ap (λ xs. slice_get xs k) b.tied.held ∙ lies)

  -- each message, once the seat holds this, goes between nodes of its kind
  pub ends : IsAt m b → (n : ℕ) (a : Hold) → Standing m.set_up (seat_count m.set_up) n a → (s : Message)
      (xs : List Message) → SameBag (bag_of_hold a) (s ∷ xs) → has_endpoints b.cores b.banks s ≡ true
  ends is n a standing s xs bag =
      (λ i. has_endpoints (is.2 i) (is.3 i) s)
      ∙ (found.any m.set_up (seat_count m.set_up) n a m.good standing s xs bag).endpoints
