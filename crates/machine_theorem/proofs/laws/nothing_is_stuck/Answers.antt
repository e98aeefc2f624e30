use Rattle.machine_theorem.proofs.laws.nothing_is_stuck.Goals as goal
use Rattle.machine_theorem.proofs.AnyHistory.{served_after}

pub returns : goal.returns
returns c = λ config opening events good running room numbers core op opens.
    served_after config good opening events running room numbers core op opens
