-- Lines in the sets that they belong to.
use Rattle.std.specs.Prelude.{◌≡◌, ℕ, ◌<◌, ◌%◌, true, List, length}
use Rattle.line_sets.specs.Order.{is_there}
use Rattle.line_sets.specs.SetTable.{Sets, set_at}
use Rattle.private_cache.specs.declared.line_copy.LineCopy.{LineCopy}

-- a line is in no other set than that of its number over the number of sets
abbrev pub InOwnSets : List (List (ℕ × LineCopy)) → Type 0
InOwnSets sets = (set line : ℕ) → is_there (set_at sets set) line ≡ true → line % length sets ≡ set

-- a cache has a set and a way, and its lines are in their own sets
pub record IsSound (cache : Sets LineCopy) : Type 0 where
  pub some_sets : 0 < length cache.sets
  pub some_ways : 0 < cache.ways
  pub own_sets : InOwnSets cache.sets
