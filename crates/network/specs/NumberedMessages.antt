-- Lists of things with numbers, by rising number.
use Rattle.std.specs.Prelude.{ℕ, zero, suc, ◌+◌, ◌≤◌, ◌==◌, List, [], ◌∷◌, Option, Some, None, if◌then◌else◌}

-- each number is at least `low` and below `high`, and above the one before it
abbrev pub IsRising : {X : Type 0} → ℕ → List (ℕ × X) → ℕ → Type 0
IsRising low [] high = low ≤ high
IsRising low (x ∷ xs) high = (low ≤ x.0) × IsRising (x.0 + 1) xs high

-- what has the number
abbrev pub at_number : {X : Type 0} → ℕ → List (ℕ × X) → Option X
at_number n [] = None
at_number n (x ∷ xs) = if x.0 == n then Some x.1 else at_number n xs

-- the list without what has the number
abbrev pub without_number : {X : Type 0} → ℕ → List (ℕ × X) → List (ℕ × X)
without_number n [] = []
without_number n (x ∷ xs) = if x.0 == n then xs else x ∷ without_number n xs

-- the thing before those that follow, unless it has been taken
abbrev pub given : {X : Type 0} → ℕ → Option X → List (ℕ × X) → List (ℕ × X)
given n None xs = xs
given n (Some x) xs = (n, x) ∷ xs

-- the things that are still there, where others have been taken
abbrev pub still_there : {X : Type 0} → List (ℕ × Option X) → List (ℕ × X)
still_there [] = []
still_there (x ∷ xs) = given x.0 x.1 (still_there xs)

-- the number at an index, or 0 past the end
abbrev pub number_at : {X : Type 0} → List (ℕ × X) → ℕ → ℕ
number_at [] k = 0
number_at (x ∷ xs) zero = x.0
number_at (x ∷ xs) (suc k) = number_at xs k
