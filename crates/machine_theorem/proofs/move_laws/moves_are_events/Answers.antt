use Rattle.machine_theorem.proofs.MoveEvents.{move_event}
use Rattle.machine_theorem.proofs.ReachedStates.{reached_kept}
use Rattle.machine_theorem.proofs.move_laws.moves_are_events.Goals as goal

pub returns : goal.returns
returns c =
    λ config opening a b good reached some.
    move_event config opening a (reached_kept config opening good a reached) some b
