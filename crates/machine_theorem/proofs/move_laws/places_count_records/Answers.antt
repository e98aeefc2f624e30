use Rattle.machine_theorem.proofs.Consistency.{issued_now}
use Rattle.machine_theorem.proofs.ReachedParts.{issued_count, next_place}
use Rattle.machine_theorem.proofs.ReachedStates.{reached_kept}
use Rattle.machine_theorem.proofs.move_laws.places_count_records.Goals as goal

pub returns-clause-issued : goal.returns-clause-issued
returns-clause-issued c =
    λ config opening a good reached core lt.
    issued_now config opening a (reached_kept config opening good a reached) core

pub returns-clause-count : goal.returns-clause-count
returns-clause-count c =
    λ config opening a good reached core lt.
    issued_count config opening a (reached_kept config opening good a reached) core

pub returns-clause-place : goal.returns-clause-place
returns-clause-place c =
    λ config opening a good reached core lt.
    next_place config opening a (reached_kept config opening good a reached) core
