-- The invariant: what every move and every event keeps.
use Rattle.std.specs.Prelude.{◌≡◌, ℕ, length}
use Rattle.std.specs.Ordering.{nat_cmp}
use Rattle.std.specs.FinMap.{FinMap}
use Rattle.machine_table.specs.declared.config.Config.{Config}
use Rattle.machine_table.specs.Machine.{Machine}
use Rattle.machine_theorem.specs.States.{State, seen}
use Rattle.machine_theorem.specs.View.{view, set_up}
use Rattle.machine_theorem.specs.PastWords.{IsReached}
use Rattle.machine_theorem.specs.Shape.{HasShape}

-- the state has its shape and is, line by line, one that the protocol reaches, with 0 for each word that lines don't
-- have
pub record IsKept (config : Config) (opening : FinMap nat_cmp ℕ) (a : State) : Type 0 where
  pub shape : HasShape config opening a
  pub reached : IsReached (set_up config opening) (view config a)

-- so is the machine's state, and the machine's lists have as many parts as it was set up with
pub record Invariant (m : Machine) : Type 0 where
  pub core_count : length m.cores ≡ m.config.cores
  pub bank_count : length m.banks ≡ m.config.banks
  pub dram_count : length m.drams ≡ m.config.banks
  pub lists : length m.issued ≡ m.config.cores
  pub kept : IsKept m.config m.opening (seen m)
