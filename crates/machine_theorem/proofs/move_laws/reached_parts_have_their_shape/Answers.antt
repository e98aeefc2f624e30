use Rattle.machine_theorem.proofs.ReachedStates.{reached_kept}
use Rattle.machine_theorem.proofs.move_laws.reached_parts_have_their_shape.Goals as goal

pub returns-clause-cores : goal.returns-clause-cores
returns-clause-cores c =
    λ config opening a good reached core lt. (reached_kept config opening good a reached).shape.each_core core

pub returns-clause-banks : goal.returns-clause-banks
returns-clause-banks c =
    λ config opening a good reached bank lt. (reached_kept config opening good a reached).shape.each_bank bank
