-- A line that its set doesn't have.
use Rattle.std.proofs.Common.{◌≡◌, ℕ, false, List, [], ◌∷◌, None, refl, arith}
use Rattle.line_sets.specs.Order.{find, is_there, without}

module _ {X : Type 0} where
  -- a line that isn't there
  pub missing-find : (ps : List (ℕ × X)) (line : ℕ) → is_there ps line ≡ false → find ps line ≡ None
  missing-find ps line h = grind arith

  pub missing-without : (ps : List (ℕ × X)) (line : ℕ) → is_there ps line ≡ false → without ps line ≡ ps
  missing-without [] line h = refl
  missing-without (p ∷ ps) line h = let rest = missing-without ps line in grind arith
