-- What a look-up finds.
use Rattle.std.proofs.Common.{◌≡◌, ◌≢◌, ℕ, zero, suc, ◌<◌, inl, inr, List, [], ◌∷◌, ◌++◌, length, get_or}
use Rattle.std.proofs.Common.{if◌then◌else◌, Option, Some, None, refl, ap, ◌∙◌, arith, eq-eqb, ne_eqb}
use Rattle.line_arena.specs.Rings.{Has}
use Rattle.line_arena.specs.CellLists.{find_cell, first_some, look_up}
use Rattle.line_arena.specs.Arenas.{cell_in}

module _ {X : Type 0} where
  pub find_absent : (x : ℕ) (xs : List (ℕ × Option X)) → (Has xs x → ⊥) → find_cell x xs ≡ None
  find_absent x [] no_x = refl
  find_absent x (a ∷ xs) no_x = ap (λ b. if b then Some a.1 else find_cell x xs) (ne_eqb a.0 x (λ e. no_x (inl e)))
      ∙ find_absent x xs (λ w. no_x (inr w))

  pub find_part : (x : ℕ) (it : Option X) (us bs : List (ℕ × Option X)) → (Has us x → ⊥) →
      find_cell x (us ++ (x, it) ∷ bs) ≡ Some it
  find_part x it [] bs nu = ap (λ b. if b then Some it else find_cell x bs) (eq-eqb x x refl)
  find_part x it (a ∷ us) bs nu = ap (λ b. if b then Some a.1 else find_cell x (us ++ (x, it) ∷ bs))
      (ne_eqb a.0 x (λ e. nu (inl e))) ∙ find_part x it us bs (λ w. nu (inr w))

module _ {A B : Type 0} (f : List (ℕ × A) → Option B) where
  none_first : (ls : List (List (ℕ × A))) → ((m : ℕ) → m < length ls → f (get_or ls m []) ≡ None) →
      first_some f ls ≡ None
  none_first [] h = refl
  none_first (r ∷ ls) h =
      let first = h 0 (omega arith) in let rest = none_first ls (λ m lt. h (suc m) (omega (arith, lt))) in grind arith

  pub first_some_at : (ls : List (List (ℕ × A))) (l : ℕ) → l < length ls → ((m : ℕ) → m < length ls → m ≢ l →
      f (get_or ls m []) ≡ None) → first_some f ls ≡ f (get_or ls l [])
  first_some_at [] l lt h = absurd (omega (arith, lt))
  first_some_at (r ∷ ls) zero lt h =
      let rest = none_first ls (λ m mt. h (suc m) (omega (arith, mt)) (omega arith)) in grind arith
  first_some_at (r ∷ ls) (suc l) lt h = let first = h 0 (omega arith) (omega arith) in
      let rest = first_some_at ls l (omega (arith, lt)) (λ m mt ne. h (suc m) (omega (arith, mt)) (omega (arith, ne)))
      in
      grind arith

module _ {A : Type 0} where
  pub nowhere : (x : ℕ) (xs : List (ℕ × A)) → ((i : ℕ) → cell_in xs i ≢ Some x) → find_cell x xs ≡ None
  nowhere x [] h = refl
  nowhere x (a ∷ xs) h = let rest = nowhere x xs (λ i. h (suc i)) in let first = h 0 in grind arith

  pub look_none : (x : ℕ) (rs : List (List (ℕ × A))) → ((m : ℕ) → m < length rs → find_cell x (get_or rs m []) ≡ None)
      → look_up x rs ≡ None
  look_none x rs h = none_first (find_cell x) rs h

  pub look_at_list : (x : ℕ) (v : A) (rs : List (List (ℕ × A))) (l : ℕ) → l < length rs →
      find_cell x (get_or rs l []) ≡ Some v → ((m : ℕ) → m < length rs → m ≢ l → find_cell x (get_or rs m []) ≡ None)
      → look_up x rs ≡ Some v
  look_at_list x v rs l lt found h = first_some_at (find_cell x) rs l lt h ∙ found
