use Rattle.machine_theorem.proofs.Histories.{reached_history}
use Rattle.machine_theorem.proofs.move_laws.histories_are_reached.Goals as goal

pub returns : goal.returns
returns c = reached_history
