use Rattle.std.proofs.Common.{ℕ, ◌+◌, ◌%◌, ◌^◌, sym, subst, arith}
use Rattle.atomic_table.specs.Table.{Allows}
use Rattle.seat_rule.specs.declared.views.SetUp.{SetUp}
use Rattle.seat_rule.specs.Rule.{Holds, seat_count, slot_count, from_of, to_of}
use Rattle.seat_rule.specs.Plays.{finished}
use Rattle.seat_rule.proofs.SetUps.{few_parts}
use Rattle.seat_rule.proofs.CountSteps.{completing}
use Rattle.seat_rule.proofs.laws.completions_keep_the_rule.Goals as goal

pub returns : goal.returns
returns c =
    λ z slots word id me op received ts core aim wide last same good is_core live opened attempted few.
    let f = few_parts z.config good in
    subst
    (λ (y : ℕ × ℕ × SetUp).
    Allows (Holds z) y.0 id me y.1 (λ x. (x + 1) % 2 ^ 64) (finished y.2 (seat_count y.2) core op received ts me))
    (λ i. (sym wide i, sym last i, sym same i))
    (completing z (seat_count z) (from_of z) (to_of z) (slot_count z) c.laws_of_states.ensures good (omega arith) id me
    op received ts core is_core live opened attempted few)
