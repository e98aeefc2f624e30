use Rattle.std.proofs.Common.{arith}
use Rattle.seat_rule.proofs.SetUps.{few_parts}
use Rattle.seat_rule.proofs.laws.seats_are_few.Goals as goal

pub returns : goal.returns
returns c = λ z good. let f = few_parts z.config good in (omega arith, omega arith)
