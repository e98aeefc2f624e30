-- When a list was dealt to hands, and when hands have the lengths that dealing gives.
use Rattle.std.specs.Prelude.{◌≡◌, ℕ, ◌+◌, ◌*◌, ◌/◌, ◌%◌, ◌<◌, ◌≤◌, ◌↔◌, List, [], ◌∷◌, length, slice_get}
use Rattle.std.specs.Prelude.{All, slice_index_or, vec_capacity}
use Rattle.std.specs.declared.vec.Vec.{Vec}
use Rattle.std.specs.declared.alloc.Global.{Global}

-- the h-th hand from a first one on, going round
abbrev pub hand_of : ℕ → ℕ → ℕ → ℕ
hand_of first hands h = (first + h) % hands

-- There are `hands` hands, at least one. Item i of the list goes to the i-th hand from the first one on, going round.
-- Each hand has its items in their order: item k of the h-th hand is item hands * k + h of the list, and either exists
-- exactly if the other does.
pub record IsDealtInTurn {A : Type 0} (all : List A) (first hands : ℕ) (lists : List (List A)) : Type 0 where
  pub some : 0 < hands
  pub count : length lists ≡ hands
  pub at : (h k : ℕ) → h < hands →
      slice_get (slice_index_or lists (hand_of first hands h) []) k ≡ slice_get all (hands * k + h)

-- The lengths are those of the hands to which n items were dealt so: the h-th hand has an item k exactly if the items
-- have an item hands * k + h.
pub record HasLengths {A : Type 0} (items first hands : ℕ) (lists : List (List A)) : Type 0 where
  pub some : 0 < hands
  pub count : length lists ≡ hands
  pub at : (h k : ℕ) → h < hands →
      (k < length (slice_index_or lists (hand_of first hands h) [])) ↔ (hands * k + h < items)

-- how many items hands have together
abbrev pub total_length : {A : Type 0} → List (List A) → ℕ
total_length [] = 0
total_length (xs ∷ lists) = length xs + total_length lists

-- Each hand is empty, with room for its share of n items.
abbrev pub HaveRoom : {A : Type 0} → ℕ → List (Vec A Global) → Type 0
HaveRoom items hands = All (λ v. (v.items ≡ []) × (items / length hands + 1 ≤ vec_capacity v)) hands
