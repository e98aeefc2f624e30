-- The latest time of a write to each word.
use Rattle.std.specs.Prelude.{ℕ, nat_lt, max, Bool, false, Option, Some, None}
use Rattle.std.specs.Ordering.{nat_cmp}
use Rattle.std.specs.FinMap.{FinMap, get, insert}
use Rattle.physiological_order.specs.declared.operation.Op.{Op}
use Rattle.physiological_order.specs.declared.operation.Op.TheVariants.{Load, Store, Swap}

-- there is a time, and it is later than t
abbrev pub later_than : Option ℕ → ℕ → Bool
later_than None t = false
later_than (Some latest) t = nat_lt t latest

-- the later of a time, if there is one, and t
abbrev pub raised : Option ℕ → ℕ → ℕ
raised None t = t
raised (Some latest) t = max latest t

-- the latest times after an operation
abbrev pub latest_after : FinMap nat_cmp ℕ → Op → ℕ → FinMap nat_cmp ℕ
latest_after latest (Load a) t = latest
latest_after latest (Store a v) t = insert latest a (raised (get latest a) t)
latest_after latest (Swap a v) t = insert latest a (raised (get latest a) t)

-- a load of a word that has a later write
abbrev pub stale_by : FinMap nat_cmp ℕ → Op → ℕ → Bool
stale_by latest (Load a) t = later_than (get latest a) t
stale_by latest (Store a v) t = false
stale_by latest (Swap a v) t = false
