-- The sizes of sets: each has at most as many lines as ways, each of its lines belongs there, and none is there twice.
use Rattle.std.proofs.Common.{◌≡◌, ℕ, ◌/◌, ◌%◌, ◌≤◌, true, length}
use Rattle.line_sets.specs.Order.{is_there, IsDistinct}
use Rattle.line_sets.specs.SetTable.{Sets, set_at}
use Rattle.machine_table.specs.declared.config.Config.{Config}
use Rattle.machine_theorem.specs.States.{State}

-- so many sets of so many ways; home gives a line's number among those of its table, and the line's set is that over
-- the number of sets
pub record Fits {X : Type 0} (sets ways : ℕ) (home : ℕ → ℕ) (table : Sets X) : Type 0 where
  pub as_many_sets : length table.sets ≡ sets
  pub as_many_ways : table.ways ≡ ways
  pub distinct : (set : ℕ) → IsDistinct (set_at table.sets set)
  pub sizes : (set : ℕ) → length (set_at table.sets set) ≤ table.ways
  pub homes : (set line : ℕ) → is_there (set_at table.sets set) line ≡ true → home line % length table.sets ≡ set

-- so it is of each cache, and of each bank
pub record IsSized (config : Config) (a : State) : Type 0 where
  pub caches : (core : ℕ) → Fits config.sets config.ways (λ line. line) (a.cores core).cache
  pub banks : (bank : ℕ) →
      Fits config.bank_sets config.bank_ways (λ line. line / (a.banks bank).banks) (a.banks bank).table
