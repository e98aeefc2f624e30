-- A table of sets, each with as many ways. Which set a line belongs to is said by whoever uses the table.
use Rattle.std.specs.Prelude.{ℕ, nat_lt, Bool, ◌||◌, List, [], length, replicate, Option, Some, None, slice_index_or}
use Rattle.std.specs.Prelude.{slice_set, if◌then◌else◌}
use Rattle.std.specs.List.{flat_map}
use Rattle.line_sets.specs.Order.{find, without, put_last, put_in_place, is_there, lines_passing}

-- the sets by number, each in order of use
pub record Sets (X : Type 0) : Type 0 where
  pub ways : ℕ
  pub sets : List (List (ℕ × X))

-- sets without lines
abbrev pub empty_sets : {X : Type 0} → ℕ → ℕ → Sets X
empty_sets sets ways = record { ways = ways; sets = replicate sets [] }

-- the set of this number, empty if there is none
abbrev pub set_at : {X : Type 0} → List (List (ℕ × X)) → ℕ → List (ℕ × X)
set_at sets i = slice_index_or sets i []

-- what is kept of a line in a set
abbrev pub look : {X : Type 0} → List (List (ℕ × X)) → ℕ → ℕ → Option X
look sets i line = find (set_at sets i) line

-- the line is put into its set with this value, and used last
abbrev pub put : {X : Type 0} → List (List (ℕ × X)) → ℕ → ℕ → X → List (List (ℕ × X))
put sets i line x = slice_set sets i (put_last (set_at sets i) line x)

-- the line has this value, and the order of use stays
abbrev pub put_within : {X : Type 0} → List (List (ℕ × X)) → ℕ → ℕ → X → List (List (ℕ × X))
put_within sets i line x = slice_set sets i (put_in_place (set_at sets i) line x)

-- the line leaves its set
abbrev pub drop_line : {X : Type 0} → List (List (ℕ × X)) → ℕ → ℕ → List (List (ℕ × X))
drop_line sets i line = slice_set sets i (without (set_at sets i) line)

-- a set has fewer lines than ways
abbrev pub has_room : {X : Type 0} → Sets X → ℕ → Bool
has_room table i = nat_lt (length (set_at table.sets i)) table.ways

-- a line has a way in its set, or finds a free one
abbrev pub has_place : {X : Type 0} → Sets X → ℕ → ℕ → Bool
has_place table i line = is_there (set_at table.sets i) line || has_room table i

-- the lines of all sets, set by set, of values that a test passes
abbrev pub all_listed : {X : Type 0} → (X → Bool) → List (List (ℕ × X)) → List ℕ
all_listed passes sets = flat_map (lines_passing passes) sets

-- how many values that a test passes there are where one may be
abbrev pub count_of : {X : Type 0} → (X → Bool) → Option X → ℕ
count_of passes None = 0
count_of passes (Some x) = if passes x then 1 else 0
