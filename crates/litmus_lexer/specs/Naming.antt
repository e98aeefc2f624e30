-- Locations are numbered in the order in which they are first seen.
use Rattle.std.specs.Prelude.{ℕ, not, List}
use Rattle.std.specs.List.{prefix_len}
use Rattle.std.specs.Str.{bytes_eq}

-- the index of a name among names, or how many names there are if it is not among them
abbrev pub place_of : List ℕ → List (List ℕ) → ℕ
place_of name names = prefix_len (λ other. not (bytes_eq other name)) names
