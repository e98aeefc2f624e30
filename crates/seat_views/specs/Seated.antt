-- Views by number: the first seat makes the others, and any seat takes in what another knows, for any type of what a
-- seat holds.
use Rattle.std.specs.Prelude.{◌≡◌, ℕ, zero, suc, ◌+◌, ◌<◌, ◌≤◌, true, false, cond, eqb, List, [], ◌∷◌, ◌++◌, length}
use mathlib.Core.Option.{some}
use lib.ListN.{get_elem?}
use Rattle.seat_views.specs.declared.views.View.{View}

-- the numbers f 0 to f (n - 1), added up
abbrev pub over : ℕ → (ℕ → ℕ) → ℕ
over zero f = 0
over (suc n) f = over n f + f n

-- f, with x at i
abbrev pub with_value_at : {A : Type 0} → (ℕ → A) → ℕ → A → ℕ → A
with_value_at f i x j = cond (eqb j i) x (f j)

-- the view of this index is of a seat that was joined
abbrev pub IsSpent : {H : Type 0} → List (View H) → ℕ → Type 0
IsSpent {H} views j = (v : View H) × (get_elem? views j ≡ some v) × (v.spent ≡ true)

module _ {H : Type 0} where
  -- a seat that was just made
  abbrev pub seat_view : ℕ → H → View H
  seat_view j h = record { number = j; mine = h; made = 0; known = []; spent = false }

  -- the first seat before it makes another
  abbrev pub first_view : H → View H
  first_view h = record { number = 0; mine = h; made = 1; known = []; spent = false }

  -- a seat that was joined
  abbrev pub spent_view : H → View H
  spent_view h = record { number = 0; mine = h; made = 0; known = []; spent = true }

  -- the first seat after it made another
  abbrev pub one_more : View H → View H
  one_more v = record v { made = v.made + 1 }

  -- a seat after another, u, was joined to it
  abbrev pub knows : View H → View H → View H
  knows v u = record v { known = v.known ++ (u.number, u.mine) ∷ [] }

  -- a seat that now holds this
  abbrev pub with_hold : View H → H → View H
  with_hold v h =
      record { number = v.number; mine = h; made = v.made; known = v.known; spent = v.spent }

-- No number of a seat occurs twice among those that were joined
abbrev pub Once : {H : Type 0} → List (ℕ × H) → Type 0
Once {H} known =
    (q q' : ℕ) (p p' : ℕ × H) → get_elem? known q ≡ some p → get_elem? known q' ≡ some p' → p.0 ≡ p'.0 → q ≡ q'

-- What the views show of seats, if each seat holds `blank` of its number until it is made, and n may be made: each
-- view, unless it is spent, has the number of its seat and what the seat holds; what a view knows of another seat is
-- what that seat holds, whose own view is then spent, and no view knows a seat twice; only the first seat makes
-- others, and it counts all that were made.
pub record Shown {H : Type 0} (blank : ℕ → H) (n : ℕ) (views : List (View H)) (seats : ℕ → H) : Type 0 where
  pub few : length views ≤ n
  pub number : (j : ℕ) (v : View H) → get_elem? views j ≡ some v → v.spent ≡ false → v.number ≡ j
  pub mine : (j : ℕ) (v : View H) → get_elem? views j ≡ some v → v.spent ≡ false → seats j ≡ v.mine
  pub known : (j : ℕ) (v : View H) → get_elem? views j ≡ some v →
      (q : ℕ) (p : ℕ × H) → get_elem? v.known q ≡ some p → (seats p.0 ≡ p.1) × IsSpent views p.0
  pub once : (j : ℕ) (v : View H) → get_elem? views j ≡ some v → Once v.known
  pub made : (j : ℕ) (v : View H) → get_elem? views j ≡ some v → 0 < v.made → (j ≡ 0) × (v.made ≡ length views)
  pub later : (j : ℕ) → length views ≤ j → seats j ≡ blank j
