-- What a contract sees of an arena: its lists, each of pairs of a cell and its value, and how many cells it has.
use Rattle.std.specs.Prelude.{◌≡◌, ◌≢◌, ℕ, Bool, cond, not, is_some, zero, suc, ◌+◌, ◌-◌, ◌<◌, ◌≤◌, List, [], ◌∷◌}
use Rattle.std.specs.Prelude.{map, length, get_or, sum_by, Option, Some, None, refl}
use Rattle.std.specs.Coded.{Coded, code_by, coded×, coded_list, coded_ℕ}
use Rattle.line_arena.specs.declared.chains.Chains.{Chains}
use Rattle.line_arena.specs.Filled.{IsFilled}
use Rattle.line_arena.specs.CellLists.{look_up, append_to, without}
use Rattle.line_arena.specs.Chains.{total, rings_of, emptied, IsTied}
use Rattle.line_arena.specs.Rings.{Spare, at}

pub record Lists (X : Type 0) : Type 0 where
  pub lists : List (List (ℕ × X))
  pub cells : ℕ

-- how many numbers below n pass the test
abbrev pub count_below : (ℕ → Bool) → ℕ → ℕ
count_below p zero = 0
count_below p (suc n) = cond (p n) 1 0 + count_below p n

module _ {X : Type 0} where
  abbrev pub lists_of : List (List (ℕ × X)) → ℕ → Lists X
  lists_of ls n = record { lists = ls; cells = n }

  abbrev pub lists_code : Coded X → Coded (Lists X)
  lists_code c =
      code_by (List (List (ℕ × X)) × ℕ) (coded× (coded_list (coded_list (coded× coded_ℕ c))) coded_ℕ)
      (λ a. (a.lists, a.cells)) (λ p. lists_of p.0 p.1) (λ _. refl)

  -- how many cells are on no list
  abbrev pub free_cells : Lists X → ℕ
  free_cells a = a.cells - sum_by length a.lists

  -- an arena with one pair more at the end of the list l
  abbrev pub pushed : ℕ → ℕ × X → Lists X → Lists X
  pushed l a old = lists_of (append_to l a old.lists) old.cells

  -- an arena without the pair of the cell x
  abbrev pub unlinked : ℕ → Lists X → Lists X
  unlinked x old = lists_of (map (without x) old.lists) old.cells

  abbrev pub with_value : ℕ → Option X → List (ℕ × X) → List (ℕ × X)
  with_value x None xs = xs
  with_value x (Some v) xs = (x, v) ∷ xs

  -- the cells that have a value
  abbrev pub values : List (ℕ × Option X) → List (ℕ × X)
  values [] = []
  values (a ∷ xs) = with_value a.0 a.1 (values xs)

  abbrev pub AllSome : List (ℕ × Option X) → Type 0
  AllSome [] = Unit {0}
  AllSome (a ∷ xs) = ((v : X) × (a.1 ≡ Some v)) × AllSome xs

  -- a used cell is on a list, or it is free and names the next free one
  pub record IsArena (c : Chains X) : Type 0 where
    pub tied : IsTied c
    pub total : (total c.heads.items + c.spares ≡ c.used) × (c.used ≤ c.capacity)
    pub uses : ((y : ℕ) → y < c.used → IsFilled c.block y) × ((y : ℕ) → c.used ≤ y → get_or c.block y None ≡ None)
    pub loaded : (l : ℕ) → l < length c.heads.items → AllSome (get_or (rings_of c) l [])
    pub spare : Spare c.block (length c.heads.items) c.spares c.free

  -- the cell x, which was used, is on no list and not free now
  pub record Lacks (x : ℕ) (c : Chains X) : Type 0 where
    pub tied : IsTied c
    pub total : (total c.heads.items + c.spares + 1 ≡ c.used) × (c.used ≤ c.capacity)
    pub gap : (x < c.used) × (get_or c.block x None ≡ None)
    pub uses : (y : ℕ) → y ≢ x → (y < c.used → IsFilled c.block y) × (c.used ≤ y → get_or c.block y None ≡ None)
    pub loaded : (l : ℕ) → l < length c.heads.items → AllSome (get_or (rings_of c) l [])
    pub spare : Spare c.block (length c.heads.items) c.spares c.free

  -- the cell x, which was used, is on no list, not free, and has no value
  pub record IsBlank (x : ℕ) (c : Chains X) : Type 0 where
    pub lacks : Lacks x (emptied x c)
    pub filled : IsFilled c.block x
    pub blank : (at c.block x).item ≡ None

  -- the lists with their values
  abbrev pub shown : List (List (ℕ × Option X)) → List (List (ℕ × X))
  shown rs = map values rs

  abbrev pub model : Chains X → Lists X
  model c = lists_of (shown (rings_of c)) c.capacity

  -- the cell in the place i of a list
  abbrev pub cell_in : List (ℕ × X) → ℕ → Option ℕ
  cell_in [] i = None
  cell_in (a ∷ xs) zero = Some a.0
  cell_in (a ∷ xs) (suc i) = cell_in xs i

  -- No cell occurs twice: two places with one cell are one place of one list.
  pub record IsOnce (ls : List (List (ℕ × X))) : Type 0 where
    pub once : (l m i j x : ℕ) → cell_in (get_or ls l []) i ≡ Some x → cell_in (get_or ls m []) j ≡ Some x
        → (l ≡ m) × (i ≡ j)

  -- Each cell that occurs is one of the arena's.
  pub record AreCells (a : Lists X) : Type 0 where
    pub below : (l i x : ℕ) → cell_in (get_or a.lists l []) i ≡ Some x → x < a.cells

  -- how many of the arena's cells occur nowhere
  unfoldable pub absent_cells : Lists X → ℕ
  absent_cells a = count_below (λ x. not (is_some (look_up x a.lists))) a.cells
