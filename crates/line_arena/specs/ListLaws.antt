-- Laws of lists of pairs, each of a cell and what it has, for callers of the arena: what a look-up finds, and what a
-- list is, after each change.
use Rattle.std.specs.Prelude.{◌≡◌, ◌≢◌, ℕ, ◌+◌, ◌<◌, List, [], ◌∷◌, ◌++◌, drop, map, length, get_or, IsSome, Some, None}
use Rattle.line_arena.specs.CellLists.{find_cell, look_up, first_cell, next_in, next_cell, append_to, without}
use Rattle.line_arena.specs.CellLists.{rewritten}
use Rattle.line_arena.specs.Arenas.{IsOnce}

module _ {A : Type 0} where
  -- A cell that a walk of the list l comes to after k others: its value, and the cell that it comes to next.
  pub record IsMet (ls : List (List (ℕ × A))) (l k c : ℕ) : Type 0 where
    pub value : A
    pub is : drop k (get_or ls l []) ≡ (c, value) ∷ drop (k + 1) (get_or ls l [])
    pub cell : look_up c ls ≡ Some value
    pub next : next_cell c ls ≡ first_cell (drop (k + 1) (get_or ls l []))

-- What a look-up finds.
pub record LookUpLaws (A : Type 0) : Type 0 where
  -- The first cell of a list is found, and so is the cell after another.
  pub front : (ls : List (List (ℕ × A))) (l x : ℕ) → first_cell (get_or ls l []) ≡ Some x → IsSome (look_up x ls)
  pub next : (ls : List (List (ℕ × A))) (x y : ℕ) → next_cell x ls ≡ Some y → IsSome (look_up y ls)
  -- What is found is on a list. If no cell occurs twice, what is on a list is found, and on one list alone.
  pub on : (ls : List (List (ℕ × A))) (x : ℕ) (v : A) → look_up x ls ≡ Some v
      → (l : ℕ) × (l < length ls) × (find_cell x (get_or ls l []) ≡ Some v)
  pub here : (ls : List (List (ℕ × A))) (l x : ℕ) (v : A) → IsOnce ls
      → find_cell x (get_or ls l []) ≡ Some v → look_up x ls ≡ Some v
  pub one : (ls : List (List (ℕ × A))) (l m x : ℕ) → IsOnce ls → IsSome (find_cell x (get_or ls l []))
      → IsSome (find_cell x (get_or ls m [])) → l ≡ m
  -- If no cell occurs twice, the cell after one on a list is on that list, and a walk of a list comes to all of it.
  pub after : (ls : List (List (ℕ × A))) (l x : ℕ) → IsOnce ls → IsSome (find_cell x (get_or ls l []))
      → next_cell x ls ≡ next_in x (get_or ls l [])
  pub met : (ls : List (List (ℕ × A))) (l k c : ℕ) → IsOnce ls → first_cell (drop k (get_or ls l [])) ≡ Some c
      → IsMet ls l k c

-- A pair was put at the end of the list l.
pub record AppendLaws (A : Type 0) : Type 0 where
  -- A new cell is found.
  pub found : (ls : List (List (ℕ × A))) (l x : ℕ) (v : A) → l < length ls → look_up x ls ≡ None
      → look_up x (append_to l (x, v) ls) ≡ Some v
  -- Other cells are found as before.
  pub others : (ls : List (List (ℕ × A))) (l x y : ℕ) (v : A) → y ≢ x →
      look_up y (append_to l (x, v) ls) ≡ look_up y ls
  -- The list has the pair at its end, and every other list is unchanged.
  pub longer : (ls : List (List (ℕ × A))) (l : ℕ) (a : ℕ × A) → l < length ls
      → get_or (append_to l a ls) l [] ≡ get_or ls l [] ++ a ∷ []
  pub apart : (ls : List (List (ℕ × A))) (l m : ℕ) (a : ℕ × A) → m ≢ l → get_or (append_to l a ls) m
      [] ≡ get_or ls m []
  -- There are as many lists as before.
  pub lists : (ls : List (List (ℕ × A))) (l : ℕ) (a : ℕ × A) → length (append_to l a ls) ≡ length ls

-- A cell was taken off its list.
pub record WithoutLaws (A : Type 0) : Type 0 where
  -- It is found no more, and other cells are found as before.
  pub gone : (ls : List (List (ℕ × A))) (x : ℕ) → look_up x (map (without x) ls) ≡ None
  pub others : (ls : List (List (ℕ × A))) (x y : ℕ) → y ≢ x → look_up y (map (without x) ls) ≡ look_up y ls
  -- Each list is without it. The list that it was on has one pair fewer, and every other list is unchanged.
  pub each : (ls : List (List (ℕ × A))) (x l : ℕ) → get_or (map (without x) ls) l [] ≡ without x (get_or ls l [])
  pub shorter : (ls : List (List (ℕ × A))) (x l : ℕ) → IsOnce ls → IsSome (find_cell x (get_or ls l []))
      → length (without x (get_or ls l [])) + 1 ≡ length (get_or ls l [])
  pub apart : (ls : List (List (ℕ × A))) (x l m : ℕ) → IsOnce ls → IsSome (find_cell x (get_or ls l [])) → m ≢ l
      → without x (get_or ls m []) ≡ get_or ls m []
  -- There are as many lists as before.
  pub lists : (ls : List (List (ℕ × A))) (x : ℕ) → length (map (without x) ls) ≡ length ls

-- What a cell has was written.
pub record RewriteLaws (A : Type 0) : Type 0 where
  -- The cell has the new value, and other cells are found as before.
  pub found : (ls : List (List (ℕ × A))) (x : ℕ) (w : A) → IsSome (look_up x ls)
      → look_up x (map (rewritten x w) ls) ≡ Some w
  pub others : (ls : List (List (ℕ × A))) (x y : ℕ) (w : A) → y ≢ x →
      look_up y (map (rewritten x w) ls) ≡ look_up y ls
  -- Each list has its cells in the same order.
  pub each : (ls : List (List (ℕ × A))) (x l : ℕ) (w : A)
      → get_or (map (rewritten x w) ls) l [] ≡ rewritten x w (get_or ls l [])
  pub cells : (xs : List (ℕ × A)) (x : ℕ) (w : A) → map (λ a. a.0) (rewritten x w xs) ≡ map (λ a. a.0) xs
