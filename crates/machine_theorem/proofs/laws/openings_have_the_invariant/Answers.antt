use Rattle.machine_theorem.proofs.laws.openings_have_the_invariant.Goals as goal
use Rattle.machine_theorem.proofs.Openings.{fair, at_start_invariant}

pub returns : goal.returns
returns c = λ config opening good. at_start_invariant config opening (fair config good)
