-- What fits a machine in memory: capacity that is reserved for the record of each open operation, and masks.
use Rattle.std.specs.Prelude.{◌≡◌, ℕ, ◌+◌, ◌≤◌, Bool, true, false, List, [], ◌∷◌, length, Option, Some, None}
use Rattle.physiological_order.specs.declared.operation.Record.{Record}
use Rattle.physiological_order.specs.declared.operation.Op.{Op}
use Rattle.core_pts.specs.CoreTable.{CoreState}
use Rattle.machine_table.specs.declared.config.Config.{Config}
use Rattle.machine_table.specs.Step.{Tried, Completes, attempt_open}
use Rattle.network.specs.Flight.{Flight}
use Rattle.interleaving_core.specs.declared.core_masks.CoreMasks.{CoreMasks}
use Rattle.interleaving_core.specs.CoreMasks.{AreMasks}

-- 1 for an open operation
abbrev pub owed_for : Option Op → ℕ
owed_for None = 0
owed_for (Some op) = 1

-- how many operations are open
abbrev pub owed : List CoreState → ℕ
owed [] = 0
owed (core ∷ cores) = owed_for core.open_op + owed cores

-- the messages in flight are those of a machine that is set up so, there is capacity for a record of each open
-- operation, and the masks are those of the cores
pub record IsFitted (config : Config) (flight : Flight) (cores : List CoreState) (records : List Record)
    (capacity : ℕ) (masks : CoreMasks) : Type 0 where
  pub cores_are : flight.cores ≡ config.cores
  pub banks_are : flight.banks ≡ config.banks
  pub capacity_is : flight.capacity ≡ config.messages
  pub reserved : length records + owed cores ≤ capacity
  pub masked : AreMasks masks cores

-- whether an attempt completes the core's open operation
abbrev pub is_completion : Tried → Bool
is_completion (Completes op received ts after) = true
is_completion _ = false

abbrev pub completes : CoreState → Bool
completes core = is_completion (attempt_open core core.open_op)
