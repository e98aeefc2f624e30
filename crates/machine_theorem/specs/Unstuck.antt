-- Events that serve a machine: they complete what is open. None issues an operation, or advances a core by itself.
use Rattle.std.specs.Prelude.{◌≡◌, ℕ, ◌≤◌, true, List, [], ◌∷◌, ◌++◌, length, None, ◌⊎◌, slice_get}
use Rattle.std.specs.List.{AllByRecursion}
use Rattle.physiological_order.specs.declared.operation.Op.{Op}
use Rattle.physiological_order.specs.declared.operation.Record.{Record}
use Rattle.physiological_order.specs.Order.{of_core}
use Rattle.machine_table.specs.declared.event.Event.{Event}
use Rattle.machine_table.specs.declared.event.Event.TheVariants.{Issue, Advance}
use Rattle.machine_table.specs.Machine.{Machine, operation_of}
use Rattle.machine_table.specs.Runs.{after_all}

abbrev pub IsServing : Event → Type 0
IsServing (Issue core op) = ⊥
IsServing (Advance core) = ⊥
IsServing _ = Unit {0}

-- a core's open operation is completed, and nothing else of this core
pub record CompletesIn (core : ℕ) (op : Op) (m n : Machine) : Type 0 where
  pub completion : Record
  pub its_operation : completion.op ≡ op
  pub records : of_core core n.records ≡ of_core core m.records ++ completion ∷ []
  pub closed : operation_of (slice_get n.cores core) ≡ None

-- at most so many events that serve complete it, or stop the machine, since a time doesn't fit
pub record IsServed (most core : ℕ) (op : Op) (m : Machine) : Type 0 where
  pub events : List Event
  pub few : length events ≤ most
  pub serving : AllByRecursion IsServing events
  pub ends : CompletesIn core op m (after_all m events) ⊎ ((after_all m events).is_stopped ≡ true)
