use Rattle.machine_theorem.proofs.laws.rounds_move_on.Goals as goal
use Rattle.machine_theorem.proofs.MovingOn.{moves_after}

pub returns : goal.returns
returns c = λ config opening events good running room numbers core op opens.
    moves_after config good opening events running room numbers core op opens
