use Rattle.std.proofs.Common.{ℕ, ◌+◌, ◌%◌, ◌^◌, sym, subst}
use Rattle.atomic_table.specs.Table.{Allows}
use Rattle.seat_views.specs.declared.views.View.{View}
use Rattle.seat_rule.specs.declared.views.SetUp.{SetUp}
use Rattle.seat_rule.specs.declared.views.Hold.{Hold}
use Rattle.seat_rule.specs.Rule.{Holds, Changes, seat_count, slot_count, from_of, to_of}
use Rattle.seat_rule.specs.Plays.{stood}
use Rattle.seat_rule.proofs.CountSteps.{serves}
use Rattle.seat_rule.proofs.laws.changes_keep_the_rule.Goals as goal

pub returns : goal.returns
returns c =
    λ z slots word id me aim to h wide last same live told serving change.
    subst
    (λ (y : ℕ × ℕ × View Hold × SetUp).
    Allows (Holds z) y.0 id me y.1 (λ x. (x + 0) % 2 ^ 64) (λ _. stood y.3 (seat_count y.3) y.2 me))
    (λ i. (sym wide i, sym last i, sym told i, sym same i))
    (serves z (seat_count z) (from_of z) (to_of z) (slot_count z) id me h live serving
    (subst (λ (y : SetUp). Changes y (seat_count y) me.0.number me.0.mine h) same change))
