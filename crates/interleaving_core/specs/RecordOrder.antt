-- Records in the order of their numbers.
use Rattle.std.specs.Prelude.{◌≡◌, ℕ, ◌+◌, List, [], ◌∷◌}
use Rattle.physiological_order.specs.declared.operation.Record.{Record}

-- the numbers are this one, the next, and so on
abbrev pub AreNumbered : ℕ → List Record → Type 0
AreNumbered k [] = Unit {0}
AreNumbered k (r ∷ rs) = (r.number ≡ k) × AreNumbered (k + 1) rs
