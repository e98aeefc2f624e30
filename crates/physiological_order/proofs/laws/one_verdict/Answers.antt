use Rattle.physiological_order.proofs.Verdicts
use Rattle.physiological_order.proofs.laws.one_verdict.Goals as goal

pub returns : goal.returns
returns c = λ opening issued records first second a b. Verdicts.one_verdict opening issued records first second a b
