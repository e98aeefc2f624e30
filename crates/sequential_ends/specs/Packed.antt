-- Points in rows of words.
use Rattle.std.specs.Prelude.{◌≡◌, ℕ, List, [], ◌∷◌, ◌++◌, length, map}
use Rattle.std.specs.List.{AllByRecursion}
use Rattle.litmus_reader.specs.Litmus.{Litmus}
use Rattle.sequential_machine.specs.Turns.{Point}

-- lists in one row, each behind its length
abbrev pub packed_lists : List (List ℕ) → List ℕ
packed_lists [] = []
packed_lists (list ∷ lists) = length list ∷ list ++ packed_lists lists

-- the words of a point, and then what each thread received
abbrev pub packed : Point → List ℕ
packed p = packed_lists (p.words ∷ p.received)

-- the row of a point that has a list for each thread
abbrev pub IsRowOf : Litmus → Point → List ℕ → Type 0
IsRowOf test p row = (row ≡ packed p) × (length p.received ≡ test.threads)

abbrev pub AreRowsOf : Litmus → List Point → List (List ℕ) → Type 0
AreRowsOf test points rows =
    (rows ≡ map packed points) × AllByRecursion (λ (p : Point). length p.received ≡ test.threads) points
