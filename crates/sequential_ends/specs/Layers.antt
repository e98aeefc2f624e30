-- The points of a test in layers, by the number of turns that lead to them; each point is once in its layer.
use Rattle.std.specs.Prelude.{ℕ, zero, suc, ◌+◌, Bool, false, ◌||◌, if◌then◌else◌, List, [], ◌∷◌, ◌++◌, fold}
use Rattle.std.specs.Prelude.{length, Option, Some, None, option_map, is_some}
use Rattle.std.specs.List.{list_any}
use Rattle.std.specs.Str.{bytes_eq}
use Rattle.litmus_reader.specs.Litmus.{Litmus}
use Rattle.sequential_machine.specs.Turns.{Point, operation_at, turned, point_opened, values_at}
use Rattle.sequential_ends.specs.Packed.{packed}
use Rattle.sequential_ends.specs.Rows.{with_row}

-- two points of a test have the same row exactly if they are the same
abbrev pub same_row : Point → Point → Bool
same_row p q = bytes_eq (packed p) (packed q)

-- a point goes behind the others, if it isn't there
abbrev pub with_point : List Point → Point → List Point
with_point points p = if list_any (same_row p) points then points else points ++ p ∷ []

abbrev pub with_some : List Point → Option Point → List Point
with_some points None = points
with_some points (Some p) = with_point points p

-- the points, with those that a turn of each of the first n threads leads to
abbrev pub with_turns : Litmus → Point → ℕ → List Point → List Point
with_turns test p zero points = points
with_turns test p (suc n) points =
    with_some (with_turns test p n points) (option_map (turned p n) (operation_at test p n))

-- one of the first n threads has an operation left
abbrev pub has_turn : Litmus → Point → ℕ → Bool
has_turn test p zero = false
has_turn test p (suc n) = has_turn test p n || is_some (operation_at test p n)

-- what turns lead to from a list of points
abbrev pub behind : Litmus → List Point → List Point
behind test points = fold (λ next p. with_turns test p test.threads next) [] points

-- the ends, with that of a point at which all threads have finished
abbrev pub with_end : Litmus → List (List ℕ) → Point → List (List ℕ)
with_end test ends p = if has_turn test p test.threads then ends else with_row ends (values_at test p)

abbrev pub with_ends : Litmus → List (List ℕ) → List Point → List (List ℕ)
with_ends test ends points = fold (with_end test) ends points

-- the points that so many turns lead to
abbrev pub layer : Litmus → ℕ → List Point
layer test zero = point_opened test ∷ []
layer test (suc k) = behind test (layer test k)

-- the ends in the layers before this one, and how many points these have
abbrev pub ends_before : Litmus → ℕ → List (List ℕ)
ends_before test zero = []
ends_before test (suc k) = with_ends test (ends_before test k) (layer test k)

abbrev pub states_before : Litmus → ℕ → ℕ
states_before test zero = 0
states_before test (suc k) = states_before test k + length (layer test k)

-- a layer and the next are kept at once
abbrev pub kept_at : Litmus → ℕ → ℕ
kept_at test k = length (layer test k) + length (layer test (suc k))
