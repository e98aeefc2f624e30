use Rattle.physiological_order.proofs.Unique
use Rattle.physiological_order.proofs.laws.one_arrangement.Goals as goal

pub returns : goal.returns
returns c = λ records first second a b. Unique.one_arrangement records first second a b
