use Rattle.std.proofs.Common.{arith}
use Rattle.seat_rule.proofs.Closings.{at_most_four_lie}
use Rattle.seat_rule.proofs.laws.links_lose_and_double_nothing.Goals as goal

pub returns-clause-taken : goal.returns-clause-taken
returns-clause-taken c = λ z seats phases log whole weight. let e = whole.links weight in omega arith

pub returns-clause-lying : goal.returns-clause-lying
returns-clause-lying c = λ z seats phases log whole link. at_most_four_lie z seats phases log whole link
