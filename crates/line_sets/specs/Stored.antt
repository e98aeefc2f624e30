-- How a table is stored: lists of lines and values in the cells of an arena, in order of use, and beside them a row of
-- tags and cells for each set.
use Rattle.std.specs.Prelude.{◌≡◌, ℕ, ◌+◌, ◌*◌, ◌<◌, ◌≤◌, Bool, not, List, [], length, map, get_or, Option, Some, None}
use Rattle.std.specs.Prelude.{option_map}
use Rattle.line_arena.specs.Arenas.{Lists}
use Rattle.line_arena.specs.CellLists.{find_cell}
use Rattle.line_sets.specs.declared.entries.Row.{Row}
use Rattle.line_sets.specs.Order.{find, lines_passing, IsDistinct}
use Rattle.line_sets.specs.TaggedRows.{row_at, HasCell}
use Rattle.line_sets.specs.Tags.{tag_of}

module _ {X : Type 0} where
  -- the lines and values of a list of cells
  abbrev pub entries_of : List (ℕ × (ℕ × X)) → List (ℕ × X)
  entries_of cells = map (λ a. (a.1.0, a.1.1)) cells

  -- the lines and their cells
  abbrev pub tags_of : List (ℕ × (ℕ × X)) → List (ℕ × ℕ)
  tags_of cells = map (λ a. (a.1.0, a.0)) cells

  -- the lines and values of each set
  abbrev pub sets_of : List (List (ℕ × (ℕ × X))) → List (List (ℕ × X))
  sets_of lists = map entries_of lists

  -- the tag of the line of a cell
  abbrev pub tag_in : List (ℕ × (ℕ × X)) → ℕ → Option ℕ
  tag_in cells c = option_map (λ p. tag_of p.0) (find_cell c cells)

  -- a row has the cells of the list, each once, with the tags of their lines
  pub record Fits (row : Row) (cells : List (ℕ × (ℕ × X))) : Type 0 where
    pub sized : (length row.tags ≡ 16) × (length row.cells ≡ 16)
    pub few : row.count ≤ 16
    pub many : row.count ≡ length cells
    pub each : (k : ℕ) → k < row.count → tag_in cells (get_or row.cells k 0) ≡ Some (get_or row.tags k 0)
    pub all : (c tag : ℕ) → tag_in cells c ≡ Some tag → HasCell row c
    pub once : (j k : ℕ) → j < row.count → k < row.count → get_or row.cells j 0 ≡ get_or row.cells k 0 → j ≡ k
    pub lines : IsDistinct (tags_of cells)

  -- each row is that of a list
  abbrev pub AreRows : List Row → List (List (ℕ × (ℕ × X))) → Type 0
  AreRows rows lists = (set : ℕ) → set < length lists → Fits (row_at rows set) (get_or lists set [])

  -- the place of a line of a list in its row, if it is there
  abbrev pub IsPlaceIn : Row → List (ℕ × (ℕ × X)) → ℕ → Option ℕ → Type 0
  IsPlaceIn row cells line None = find (tags_of cells) line ≡ None
  IsPlaceIn row cells line (Some at) = (at < row.count) × (row.count ≤ 16)
      × (find (tags_of cells) line ≡ Some (get_or row.cells at 0))

  -- each set has a list with ways for all its lines, and a row that fits
  pub record IsStored (ways : ℕ) (arena : Lists (ℕ × X)) (rows : List Row) : Type 0 where
    pub cells : arena.cells ≡ length arena.lists * ways
    pub narrow : ways ≤ 16
    pub small : length arena.lists ≤ 1024
    pub many : length rows ≡ length arena.lists
    pub within : (set : ℕ) → set < length arena.lists → length (get_or arena.lists set []) ≤ ways
    pub fits : AreRows rows arena.lists

-- how many values of each set don't pass a test
abbrev pub counts_without : {X : Type 0} → (X → Bool) → List (List (ℕ × X)) → List ℕ
counts_without passes sets = map (λ ps. length (lines_passing (λ x. not (passes x)) ps)) sets

-- one of the counts can fall by the first number, and rise by the second
pub record CanCount (counts : List ℕ) (at before after : ℕ) : Type 0 where
  pub there : at < length counts
  pub enough : before ≤ get_or counts at 0
  pub few : get_or counts at 0 + after < 256
