-- Drawers of the same numbers.
use Rattle.std.specs.Prelude.{◌≡◌, ℕ, ◌+◌, ◌<◌, List, [], length, Some, slice_get, slice_index_or, All}
use Rattle.seat_views.specs.Seated.{first_view}
use Rattle.drawn_numbers.specs.declared.numbers.Numbers.{Numbers}
use Rattle.drawn_numbers.specs.declared.drawer.Drawer.{Drawer}
use Rattle.drawn_numbers.specs.Ties.{CounterSeat}

-- the drawer is one of these numbers
abbrev pub IsDrawerOf : Numbers → Drawer → Type 0
IsDrawerOf numbers d = (d.seat.table_id ≡ numbers.table.shared.table_id) × (d.number < numbers.drawers)

-- all drawers of a list are
abbrev pub AllDrawersOf : Numbers → List Drawer → Type 0
AllDrawersOf numbers ds = All (IsDrawerOf numbers) ds

-- the drawer of this number as it opens: it has drawn nothing
abbrev pub IsNewDrawer : Numbers → ℕ → Drawer → Type 0
IsNewDrawer numbers j d = IsDrawerOf numbers d × (d.number ≡ j) × (d.drawn.items ≡ [])

-- all drawers of a list are so, by number
abbrev pub AreNewDrawers : Numbers → List Drawer → Type 0
AreNewDrawers numbers ds =
    (i : ℕ) (d : Drawer) → i < length ds → IsNewDrawer numbers i (slice_index_or ds i d)

-- the same, by number from this one on
abbrev pub AllNewDrawers : Numbers → ℕ → List Drawer → Type 0
AllNewDrawers numbers from ds =
    (i : ℕ) (d : Drawer) → slice_get ds i ≡ Some d → IsNewDrawer numbers (from + i) d

-- the first seat, which has made all seats below this number
abbrev pub HasMade : Numbers → ℕ → CounterSeat → Type 0
HasMade numbers n counter_seat =
    (counter_seat.table_id ≡ numbers.table.shared.table_id)
    × (counter_seat.me ≡ (record (first_view []) { made = n }, []))

-- a drawer of this number is in the list
abbrev pub HasDrawer : List Drawer → ℕ → Type 0
HasDrawer ds j = (i : ℕ) × (d : Drawer) × (slice_get ds i ≡ Some d) × (d.number ≡ j)

-- every drawer of the numbers below this one is in the list
pub record HasDrawers (ds : List Drawer) (count : ℕ) : Type 0 where
  pub there : (j : ℕ) → j < count → HasDrawer ds j
