use Rattle.machine_theorem.specs.Moves.{opens}
use Rattle.machine_theorem.proofs.InitialStates.{opening_same}
use Rattle.machine_theorem.proofs.move_laws.initial_states_are_reached.Goals as goal

pub returns-clause-same : goal.returns-clause-same
returns-clause-same c = opening_same

pub returns-clause-reached : goal.returns-clause-reached
returns-clause-reached c = λ config opening. opens
