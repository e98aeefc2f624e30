-- What the drawers have drawn when all of them are given up.
use Rattle.std.specs.Prelude.{◌≡◌, ℕ, ◌<◌, List, [], ◌∷◌, ◌++◌, length, Some, slice_get, slice_set, slice_index_or}
use Rattle.std.specs.declared.vec.Vec.{Vec}
use Rattle.std.specs.declared.alloc.Global.{Global}
use Rattle.atomic_table.specs.Seated.{TableId}
use Rattle.seat_views.specs.declared.views.View.{View}
use Rattle.drawn_numbers.specs.declared.drawer.Drawer.{Drawer}
use Rattle.drawn_numbers.specs.Drawn.{RisesFrom, AreDealt}

-- The lists are one for each drawer, by number: what it drew, in order. Each rises, and together they are the numbers
-- below some bound, each once.
pub record AllDrawn (count : ℕ) (drawers : List Drawer) (lists : List (List ℕ)) : Type 0 where
  pub long : length lists ≡ count
  pub own : (i : ℕ) (d : Drawer) → slice_get drawers i ≡ Some d → slice_get lists d.number ≡ Some d.drawn.items
  pub rising : (j : ℕ) (xs : List ℕ) → slice_get lists j ≡ Some xs → RisesFrom 0 xs
  pub bound : ℕ
  pub dealt : AreDealt count (λ j. slice_index_or lists j []) bound

-- what is learned from a drawer that is joined: its number and what it drew
abbrev pub drawer_entry : Drawer → ℕ × List ℕ
drawer_entry d = (d.seat.me.0.number, d.seat.me.0.mine)

-- the same of a list of drawers, from the last to the first
abbrev pub drawer_entries : List Drawer → List (ℕ × List ℕ)
drawer_entries [] = []
drawer_entries (d ∷ ds) = drawer_entries ds ++ drawer_entry d ∷ []

-- a view that knows these drawers too
abbrev pub knows_all : View (List ℕ) → List Drawer → View (List ℕ)
knows_all v ds = record v { known = v.known ++ drawer_entries ds }

-- all drawers of a list are at the table, and below the count
abbrev pub AllAt : TableId → ℕ → List Drawer → Type 0
AllAt table count ds =
    (i : ℕ) (d : Drawer) → slice_get ds i ≡ Some d → (d.seat.table_id ≡ table) × (d.number < count)

-- the lists after what each drawer drew was put at its number, from the last drawer to the first
abbrev pub lists_filled : List Drawer → List (Vec ℕ Global) → List (Vec ℕ Global)
lists_filled [] lists = lists
lists_filled (d ∷ ds) lists = slice_set (lists_filled ds lists) d.number d.drawn
