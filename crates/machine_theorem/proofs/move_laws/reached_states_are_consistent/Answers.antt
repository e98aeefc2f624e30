use Rattle.machine_theorem.proofs.Consistency.{state_consistent}
use Rattle.machine_theorem.proofs.ReachedStates.{reached_kept}
use Rattle.machine_theorem.proofs.move_laws.reached_states_are_consistent.Goals as goal

pub returns : goal.returns
returns c =
    λ config opening a good reached. state_consistent config opening a (reached_kept config opening good a reached)
