-- The rule that all drawers keep, and what a draw answers: together they have drawn the numbers below the next one.
use Rattle.std.specs.Prelude.{◌≡◌, ℕ, ◌+◌, ◌<◌, ◌≤◌, cond, eqb, ltb, List, [], ◌∷◌, ◌++◌, length}
use Rattle.std.specs.Prelude.{slice_index_or}
use Rattle.atomic_table.specs.Table.{State, Me}
use Rattle.atomic_table.specs.Seated.{TableId}
use Rattle.seat_views.specs.declared.views.View.{View}
use Rattle.seat_views.specs.Seated.{over, Shown, with_hold}

-- how often x occurs in the list
abbrev pub times : ℕ → List ℕ → ℕ
times x [] = 0
times x (y ∷ ys) = cond (eqb y x) 1 0 + times x ys

-- each number of the list is above the one before it, and the first is at least this one
abbrev pub RisesFrom : ℕ → List ℕ → Type 0
RisesFrom least [] = Unit {0}
RisesFrom least (x ∷ xs) = (least ≤ x) × RisesFrom (x + 1) xs

-- all numbers of the list are below this one
abbrev pub AllBelow : ℕ → List ℕ → Type 0
AllBelow bound [] = Unit {0}
AllBelow bound (x ∷ xs) = (x < bound) × AllBelow bound xs

-- 1 if x is below the bound, and else 0
abbrev pub once_below : ℕ → ℕ → ℕ
once_below x bound = cond (ltb x bound) 1 0

-- the first n lists together have the numbers below the next one, each once, and no others
abbrev pub AreDealt : ℕ → (ℕ → List ℕ) → ℕ → Type 0
AreDealt count lists next = (x : ℕ) → over count (λ j. times x (lists j)) ≡ once_below x next

-- a drawer that has drawn nothing
abbrev pub no_numbers : ℕ → List ℕ
no_numbers j = []

-- There are at most `count` drawers, and what they have drawn are together the numbers below the word. What each has
-- drawn rises, and is at most 2 ^ 32 numbers.
pub record Drawn (count : ℕ) (s : State (Unit {0}) (View (List ℕ))) : Type 0 where
  pub drawn : ℕ → List ℕ
  pub shown : Shown no_numbers count s.views drawn
  pub one_word : length s.words ≡ 1
  pub few : count ≤ 16
  pub dealt : AreDealt count drawn (slice_index_or s.words 0 0)
  pub rising : (j : ℕ) → RisesFrom 0 (drawn j) × AllBelow (slice_index_or s.words 0 0) (drawn j)
  pub total : over count (λ j. length (drawn j)) ≡ slice_index_or s.words 0 0
  pub bounded : (j : ℕ) → length (drawn j) ≤ 4294967296

-- what a draw answers: the number is kept after those before, and is above them all
abbrev pub drew : Me (Unit {0}) (View (List ℕ)) → ℕ → Me (Unit {0}) (View (List ℕ)) → Type 0
drew before number after =
    (after.0 ≡ with_hold before.0 (before.0.mine ++ number ∷ [])) × (after.1 ≡ before.1)
    × AllBelow number before.0.mine

-- the seat is of the table, which has one word and no slot
abbrev pub Belongs : TableId → TableId → ℕ → Type 0
Belongs seat table count = (seat ≡ table) × (table.words ≡ 1) × (table.slots ≡ 0) × (count ≤ 16)
