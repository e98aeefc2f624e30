use Rattle.std.proofs.Common.{arith}
use Rattle.seat_rule.specs.Rule.{seat_count, slot_count, from_of, to_of}
use Rattle.seat_rule.proofs.SetUps.{few_parts}
use Rattle.seat_rule.proofs.Openings.{opening_kept}
use Rattle.seat_rule.proofs.laws.opened_machines_keep_the_rule.Goals as goal

pub returns : goal.returns
returns c =
    λ z good. let f = few_parts z.config good in
    opening_kept z (seat_count z) (from_of z) (to_of z) (slot_count z) c.laws_of_states.ensures (omega arith)
