use Rattle.machine_theorem.proofs.NumberedStates.{numbered_invariant, numbered_shows}
use Rattle.machine_theorem.proofs.ReachedStates.{reached_kept}
use Rattle.machine_theorem.proofs.move_laws.reached_states_have_the_invariant.Goals as goal

pub returns-clause-invariant : goal.returns-clause-invariant
returns-clause-invariant c =
    λ config opening a good reached. numbered_invariant config opening a (reached_kept config opening good a reached)

pub returns-clause-shows : goal.returns-clause-shows
returns-clause-shows c =
    λ config opening a good reached. numbered_shows config opening a (reached_kept config opening good a reached)
