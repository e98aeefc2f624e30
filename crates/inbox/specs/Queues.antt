-- What a contract sees of a queue: pairs of a cell and its value, the oldest first.
use Rattle.std.specs.Prelude.{◌≡◌, ℕ, ◌≤◌, List, [], drop, map, length, get_or, Some}
use Rattle.line_arena.specs.Arenas.{Lists}
use Rattle.line_arena.specs.CellLists.{first_cell}

module _ {T : Type 0} where
  -- the values of the cells, in their order
  abbrev pub values_of : List (ℕ × T) → List T
  values_of cells = map (λ p. p.1) cells

  -- the cell comes after k others
  abbrev pub IsAfter : ℕ → ℕ → List (ℕ × T) → Type 0
  IsAfter k cell cells = first_cell (drop k cells) ≡ Some cell

  -- the cell is one of these
  abbrev pub IsIn : ℕ → List (ℕ × T) → Type 0
  IsIn cell cells = (k : ℕ) × IsAfter k cell cells

  -- the values lie on the only list of an arena of 256 cells
  abbrev pub cells_of : Lists T → List (ℕ × T)
  cells_of a = get_or a.lists 0 []

  pub record IsQueue (a : Lists T) : Type 0 where
    pub one : length a.lists ≡ 1
    pub cells : a.cells ≡ 256
    pub few : length (cells_of a) ≤ 256
