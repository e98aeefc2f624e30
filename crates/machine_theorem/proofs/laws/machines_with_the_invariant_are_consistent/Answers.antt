use Rattle.machine_theorem.proofs.Consistency.{consistent}
use Rattle.machine_theorem.proofs.laws.machines_with_the_invariant_are_consistent.Goals as goal

pub returns : goal.returns
returns c = λ m invariant. consistent m invariant
