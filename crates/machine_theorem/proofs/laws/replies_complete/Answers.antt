use Rattle.machine_theorem.proofs.laws.replies_complete.Goals as goal
use Rattle.machine_theorem.proofs.ReadyCores.{reply_completes}

pub returns : goal.returns
returns c = λ config opening events good between running number core reply at to is.
    reply_completes config good opening events between number core reply at to is running
