use Rattle.std.proofs.Common.{ℕ, ◌∷◌, Some, None, sym, refl, ap, ◌∙◌, subst}
use Rattle.atomic_table.specs.Table.{rest, Allows}
use Rattle.seat_views.specs.declared.views.View.{View}
use Rattle.seat_rule.specs.declared.views.SetUp.{SetUp}
use Rattle.seat_rule.specs.declared.views.Hold.{Hold}
use Rattle.seat_rule.specs.Rule.{Holds, seat_count, slot_count, from_of, to_of}
use Rattle.seat_rule.specs.Plays.{SeatState, gave, put_hold, take_hold}
use Rattle.seat_rule.proofs.SlotSteps.{puts, taking, puts_hold, takes_hold}
use Rattle.seat_rule.proofs.laws.puts_and_takes_keep_the_rule.Goals as goal

pub returns-clause-put : goal.returns-clause-put
returns-clause-put c =
    λ z slots id before me k m index aim to wide out told same live writing there goes.
    let written : SeatState = (before.0, (k, Some m) ∷ rest before.1) in
    subst
    (λ (y : ℕ × SeatState × View Hold × SetUp).
    Allows (Holds z) y.0 id y.1 k (λ _. 1) (λ _. gave y.3 (seat_count y.3) y.2 y.1))
    (λ i. (sym wide i, sym out i, sym told i, sym same i))
    (puts z (seat_count z) (from_of z) (to_of z) (slot_count z) id written k m (put_hold before.0.mine k m index) live
    writing refl goes (puts_hold before.0.mine k m index there))

pub returns-clause-take : goal.returns-clause-take
returns-clause-take c =
    λ z slots id me k m aim to wide out told same live reading hand.
    subst
    (λ (y : ℕ × View Hold × SetUp).
    Allows (Holds z) y.0 id me k (λ _. 0) (λ _. gave y.2 (seat_count y.2) y.1 me))
    (λ i. (sym wide i, sym told i, sym same i))
    (taking z (seat_count z) (from_of z) (to_of z) (slot_count z) id me k m (take_hold me.0.mine k m) live reading
    (out ∙ ap (λ l. (k, None) ∷ l) (ap rest (sym out))) (takes_hold me.0.mine k m hand))
