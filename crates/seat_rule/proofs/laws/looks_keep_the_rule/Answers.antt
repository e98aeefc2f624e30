use Rattle.std.proofs.Common.{ℕ, sym, subst}
use mathlib.Core.Option.{none}
use Rattle.atomic_table.specs.Table.{step, Allows}
use Rattle.seat_rule.specs.declared.views.SetUp.{SetUp}
use Rattle.seat_rule.specs.Rule.{Holds, seat_count, slot_count, from_of, to_of}
use Rattle.seat_rule.specs.Plays.{saw_out, saw_in}
use Rattle.seat_rule.proofs.SlotSteps.{sees_out, sees_in}
use Rattle.seat_rule.proofs.laws.looks_keep_the_rule.Goals as goal

pub returns-clause-outgoing : goal.returns-clause-outgoing
returns-clause-outgoing c =
    λ z slots id k me wide near own live idle.
    subst (λ (l : ℕ). Allows (Holds z) l id me k (λ x. x) (saw_out (step l k 0 0 none) me)) (sym wide)
    (sees_out z (seat_count z) (from_of z) (to_of z) (slot_count z) id me k near own live idle)

pub returns-clause-incoming : goal.returns-clause-incoming
returns-clause-incoming c =
    λ z slots id k me aim wide same near own live idle.
    subst (λ (y : ℕ × SetUp). Allows (Holds z) y.0 id me k (λ x. x) (saw_in y.1 (step y.0 k 0 0 none) me))
    (λ i. (sym wide i, sym same i))
    (sees_in z (seat_count z) (from_of z) (to_of z) (slot_count z) id me k near own live idle)
