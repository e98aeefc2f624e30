use Rattle.machine_theorem.proofs.ReachedStates.{reached_kept, find_parts}
use Rattle.machine_theorem.proofs.move_laws.messages_find_their_parts.Goals as goal

pub returns : goal.returns
returns c = λ config opening a good reached. find_parts config opening a (reached_kept config opening good a reached)
