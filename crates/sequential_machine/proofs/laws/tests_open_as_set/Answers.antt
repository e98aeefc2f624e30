use Rattle.sequential_machine.proofs.Openings.{opens_as_set}
use Rattle.sequential_machine.proofs.laws.tests_open_as_set.Goals as goal

pub returns : goal.returns
returns c = opens_as_set
