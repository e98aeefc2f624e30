-- Rows of words, each once and with an order of turns.
use Rattle.std.specs.Prelude.{ℕ, Bool, List, [], ◌∷◌, ◌++◌, map, if◌then◌else◌}
use Rattle.std.specs.List.{list_any}
use Rattle.std.specs.Str.{bytes_eq}

-- a row goes behind the others, if it isn't there
abbrev pub with_row : List (List ℕ) → List ℕ → List (List ℕ)
with_row rows row = if list_any (λ other. bytes_eq row other) rows then rows else rows ++ row ∷ []

-- two have the same row
abbrev pub of_one_row : List ℕ × List ℕ → List ℕ × List ℕ → Bool
of_one_row a b = bytes_eq a.0 b.0

-- a row with its order goes behind the others, if the row isn't there
abbrev pub with_ordered : List (List ℕ × List ℕ) → List ℕ × List ℕ → List (List ℕ × List ℕ)
with_ordered rows row = if list_any (of_one_row row) rows then rows else rows ++ row ∷ []

abbrev pub rows_in : List (List ℕ × List ℕ) → List (List ℕ)
rows_in rows = map (λ row. row.0) rows
