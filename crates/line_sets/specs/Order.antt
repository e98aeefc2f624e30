-- One set: what is kept of each of its lines, in order of use, from the least recently used line to the most recently
-- used one.
use Rattle.std.specs.Prelude.{◌≡◌, ℕ, ◌==◌, Bool, false, List, [], ◌∷◌, ◌++◌, map, filter, is_some}
use Rattle.std.specs.Prelude.{Option, Some, None, if◌then◌else◌, option_map}
use Rattle.std.specs.List as list

-- what is kept of a line
abbrev pub find : {X : Type 0} → List (ℕ × X) → ℕ → Option X
find [] line = None
find (p ∷ ps) line = if p.0 == line then Some p.1 else find ps line

-- all but the line
abbrev pub without : {X : Type 0} → List (ℕ × X) → ℕ → List (ℕ × X)
without [] line = []
without (p ∷ ps) line = if p.0 == line then without ps line else p ∷ without ps line

-- the line with this value, now the most recently used one
abbrev pub put_last : {X : Type 0} → List (ℕ × X) → ℕ → X → List (ℕ × X)
put_last ps line x = without ps line ++ (line, x) ∷ []

-- the line with this value, and the order of use stays
abbrev pub put_in_place : {X : Type 0} → List (ℕ × X) → ℕ → X → List (ℕ × X)
put_in_place [] line x = []
put_in_place (p ∷ ps) line x = if p.0 == line then (line, x) ∷ ps else p ∷ put_in_place ps line x

-- the line is there
abbrev pub is_there : {X : Type 0} → List (ℕ × X) → ℕ → Bool
is_there ps line = is_some (find ps line)

-- no line is there twice
abbrev pub IsDistinct : {X : Type 0} → List (ℕ × X) → Type 0
IsDistinct [] = Unit {0}
IsDistinct (p ∷ ps) = (is_there ps p.0 ≡ false) × IsDistinct ps

-- the lines, in order of use, of values that a test passes
abbrev pub lines_passing : {X : Type 0} → (X → Bool) → List (ℕ × X) → List ℕ
lines_passing passes ps = map (λ p. p.0) (filter (λ p. passes p.1) ps)

-- the least recently used line
abbrev pub oldest : {X : Type 0} → List (ℕ × X) → Option ℕ
oldest [] = None
oldest (p ∷ ps) = Some p.0

-- the least recently used line of a value that passes a test
abbrev pub first_where : {X : Type 0} → (X → Bool) → List (ℕ × X) → Option ℕ
first_where passes ps = option_map (λ p. p.0) (list.find (λ p. passes p.1) ps)
