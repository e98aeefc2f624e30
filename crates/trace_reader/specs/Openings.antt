-- The words that an opening gives values.
use Rattle.std.specs.Prelude.{◌≡◌, ℕ, List, [], ◌∷◌}
use Rattle.std.specs.FinMap.{FinMap, empty, insert}
use Rattle.std.specs.Ordering.{nat_cmp}

-- words and values, one after the other, beside words that were opened before
abbrev pub opened : FinMap nat_cmp ℕ → List (ℕ × ℕ) → FinMap nat_cmp ℕ
opened words [] = words
opened words (told ∷ later) = opened (insert words told.0 told.1) later

-- these words and no other are opened, with these values
abbrev pub AreOpened : List (ℕ × ℕ) → FinMap nat_cmp ℕ → Type 0
AreOpened told words = words ≡ opened empty told
