use Rattle.machine_theorem.proofs.laws.events_keep_the_invariant.Goals as goal
use Rattle.machine_theorem.proofs.Events.{any_transition}
use Rattle.machine_theorem.proofs.SetUps.{transition_same}

pub returns-clause-invariant : goal.returns-clause-invariant
returns-clause-invariant c = λ m event invariant. any_transition m invariant event

pub returns-clause-set_up : goal.returns-clause-set_up
returns-clause-set_up c = λ m event. transition_same m event
