use Rattle.sequential_machine.proofs.Outcomes.{performed_outcome}
use Rattle.sequential_machine.proofs.laws.performed_histories_are_sequential.Goals as goal

pub returns : goal.returns
returns c = performed_outcome
