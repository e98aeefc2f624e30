use Rattle.machine_theorem.proofs.laws.rounds_move_many_messages.Goals as goal
use Rattle.machine_theorem.proofs.FewMessages.{few_after}

pub returns : goal.returns
returns c = λ config opening events good running numbers owned.
    few_after config good opening events running numbers owned
