-- A piece of a run: turns for which the steps were read ahead.
use Rattle.std.specs.Prelude.{◌≡◌, ℕ, ◌^◌, ◌<◌, true, List, [], ◌++◌, length}
use Rattle.std.specs.List.{AllByRecursion}
use Rattle.physiological_order.specs.declared.operation.Record.{Record}
use Rattle.physiological_order.specs.StaleHits.{RisesByNumber}
use Rattle.machine_table.specs.declared.event.Event.{Event}
use Rattle.machine_table.specs.Machine.{Machine}
use Rattle.machine_table.specs.Runs.{after_all}
use Rattle.programs.specs.declared.ends.End.{End}
use Rattle.programs.specs.declared.ends.End.TheVariants.{AllDone}
use Rattle.programs.specs.declared.steps.Step.{Step}
use Rattle.schedules.specs.LongerLists.{step_acts}
use Rattle.schedules.specs.Paces.{GoesOnIn, Paced, gone}
use Rattle.trace_reader.specs.Steps.{lane}

-- at most so many turns lead from a pace, a machine and queues to others and an end, and add these records; `begun` of
-- them began
pub record IsPiece (turns : ℕ) (pace : Paced) (m : Machine) (queues : List (List Step)) (next : Paced) (after : Machine)
    (left : List (List Step)) (end : End) (done : List Record) : Type 0 where
  pub begun : ℕ
  pub events : List Event
  pub ended : GoesOnIn true step_acts pace begun turns m queues events after left end
  pub paced : next ≡ gone begun pace
  pub leads : after ≡ after_all m events
  pub config : after.config ≡ m.config
  pub added : after.records ≡ m.records ++ done
  pub there : AllByRecursion (λ r. r.core < m.config.cores) done
  pub idle : end ≡ AllDone → (core : ℕ) → lane left core ≡ []
  pub rising : RisesByNumber after.records
  pub few : length after.records < 2 ^ 64
