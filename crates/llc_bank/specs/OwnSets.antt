-- Lines in the sets that they belong to.
use Rattle.std.specs.Prelude.{◌≡◌, ℕ, ◌<◌, ◌/◌, ◌%◌, true, List, length}
use Rattle.line_sets.specs.Order.{is_there}
use Rattle.line_sets.specs.SetTable.{Sets, set_at}
use Rattle.llc_bank.specs.declared.entry.Entry.{Entry}

-- a line is in no other set than that of its number over the number of banks, and that over the number of sets
abbrev pub InOwnSets : ℕ → List (List (ℕ × Entry)) → Type 0
InOwnSets banks sets = (set line : ℕ) → is_there (set_at sets set) line ≡ true → (line / banks) % length sets ≡ set

-- there is a bank, a set and a way, and lines are in their own sets
pub record IsSound (banks : ℕ) (table : Sets Entry) : Type 0 where
  pub some_banks : 0 < banks
  pub some_sets : 0 < length table.sets
  pub some_ways : 0 < table.ways
  pub own_sets : InOwnSets banks table.sets
