-- What a row of a run is.
use Rattle.std.specs.Prelude.{◌≡◌, ℕ, List, ◌++◌, length}
use Rattle.machine_table.specs.declared.event.Event.{Event}
use Rattle.machine_table.specs.Machine.{Machine}
use Rattle.machine_table.specs.Runs.{after_all}
use Rattle.schedules.specs.Watches.{watched}
use Rattle.event_counts.specs.Counting.{Counter, EventCounts, counter_events}

-- it is what is counted after the first of the run's events, those by which so many operations were completed
pub record IsRow (first : Counter) (m : Machine) (events : List Event) (done : ℕ) (row : EventCounts) : Type 0 where
  pub before : List Event
  pub after : List Event
  pub split : events ≡ before ++ after
  pub counts : row ≡ (watched counter_events first m before).counts
  pub completed : length (after_all m before).records ≡ done
