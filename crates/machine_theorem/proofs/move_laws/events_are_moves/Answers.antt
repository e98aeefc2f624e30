use Rattle.machine_theorem.proofs.move_laws.events_are_moves.Goals as goal
use Rattle.machine_theorem.proofs.EventMoves.{transition_goes}

pub returns : goal.returns
returns c = λ m event invariant. transition_goes m invariant event
