-- Rows: each is of one set, and has the tags of its lines and their cells.
use Rattle.std.specs.Prelude.{◌≡◌, ◌≢◌, ℕ, suc, ◌+◌, ◌-◌, ◌<◌, ◌≤◌, List, [], ◌∷◌, length, get_or, set, replicate}
use Rattle.std.specs.Prelude.{Option, Some, None, option_map}
use Rattle.line_arena.specs.CellLists.{look_up}
use Rattle.line_sets.specs.declared.entries.Row.{Row}
use Rattle.line_sets.specs.Tags.{tag_of}

-- no lines
abbrev pub no_row : Row
no_row = record { tags = replicate 16 0; count = 0; cells = replicate 16 0 }

-- the row of a set
abbrev pub row_at : List Row → ℕ → Row
row_at rows i = get_or rows i no_row

-- a line with its cell at the end of a row
abbrev pub with_line : ℕ → ℕ → Row → Row
with_line line cell row =
    record {
      tags = set row.tags row.count (tag_of line);
      count = row.count + 1;
      cells = set row.cells row.count cell;
    }

-- a row without the line of a place, which the last line takes
abbrev pub freed : ℕ → Row → Row
freed at row =
    record {
      tags = set row.tags at (get_or row.tags (row.count - 1) 0);
      count = row.count - 1;
      cells = set row.cells at (get_or row.cells (row.count - 1) 0);
    }

-- a row has a cell
pub record HasCell (row : Row) (c : ℕ) : Type 0 where
  pub place : ℕ
  pub low : place < row.count
  pub is : get_or row.cells place 0 ≡ c

-- a row lost one of its cells
pub record IsCut (rows : List Row) (i c : ℕ) (new : List Row) : Type 0 where
  pub had : HasCell (row_at rows i) c
  pub is : new ≡ set rows i (freed had.place (row_at rows i))

-- the place in a row of the cell of a line, if one of those with the line's tag has it
abbrev pub IsPlaceOf : {X : Type 0} → Row → List (List (ℕ × (ℕ × X))) → ℕ → Option ℕ → Type 0
IsPlaceOf row ls line None = (k : ℕ) → k < row.count → get_or row.tags k 0 ≡ tag_of line →
    option_map (λ p. p.0) (look_up (get_or row.cells k 0) ls) ≢ Some line
IsPlaceOf row ls line (Some at) = (at < row.count)
    × (option_map (λ p. p.0) (look_up (get_or row.cells at 0) ls) ≡ Some line)

-- how many sets had no line
abbrev pub count_none : List (Option ℕ) → ℕ
count_none [] = 0
count_none (None ∷ places) = suc (count_none places)
count_none (Some k ∷ places) = count_none places

-- the sets that had a line are listed, and the others have none
pub record IsSpread (places : List (Option ℕ)) (sets : List ℕ) (rows : List Row) : Type 0 where
  pub below : (i k : ℕ) → get_or places i None ≡ Some k → k < length sets
  pub own : (i k : ℕ) → get_or places i None ≡ Some k → get_or sets k 0 ≡ i
  pub there : (k : ℕ) → k < length sets → get_or sets k 0 < length places
  pub empty : (i : ℕ) → get_or places i None ≡ None → row_at rows i ≡ no_row
  pub long : length rows ≡ length places
  pub counted : length sets + count_none places ≡ length places

-- there is room to list all sets
pub record HasRoom (places : List (Option ℕ)) (sets : ℕ) : Type 0 where
  pub for_sets : length places ≤ sets
  pub small : length places ≤ 1048576
