-- A cell of the held list, and the list of messages without it.
use Rattle.std.proofs.Common.{◌≡◌, ◌≢◌, ℕ, zero, suc, List, [], ◌∷◌, map, drop, remove}
use Rattle.std.proofs.Common.{if◌then◌else◌, Some, refl, ap, ◌∙◌, arith}
use Rattle.std.proofs.lemmas.Bool.{eq-eqb, ne_eqb}
use Rattle.line_arena.specs.CellLists.{first_cell, without}
use Rattle.line_arena.specs.Arenas.{cell_in}

module _ {X : Type 0} where
  -- the k-th cell
  pub at-drop : (xs : List (ℕ × X)) (k : ℕ) → first_cell (drop k xs) ≡ cell_in xs k
  at-drop [] zero = refl
  at-drop [] (suc k) = refl
  at-drop (a ∷ xs) zero = refl
  at-drop (a ∷ xs) (suc k) = at-drop xs k

  -- a cell that is not there
  without-absent : (xs : List (ℕ × X)) (x : ℕ) → ((i : ℕ) → cell_in xs i ≢ Some x) → without x xs ≡ xs
  without-absent [] x h = refl
  without-absent (a ∷ xs) x h =
      ap (λ b. if b then without x xs else a ∷ without x xs) (ne_eqb a.0 x (λ e. h 0 (ap Some e)))
      ∙ ap (λ ys. a ∷ ys) (without-absent xs x (λ i. h (suc i)))

  -- the messages without that of the k-th cell, which is there once
  pub without-at : (xs : List (ℕ × X)) (k x : ℕ) →
      ((i j : ℕ) → cell_in xs i ≡ Some x → cell_in xs j ≡ Some x → i ≡ j) → cell_in xs k ≡ Some x →
      map (λ a. a.1) (without x xs) ≡ remove (map (λ a. a.1) xs) k
  without-at [] k x once e = cc
  without-at (a ∷ xs) zero x once e =
      let same : a.0 ≡ x = cc in
      ap (λ b. map (λ (p : ℕ × X). p.1) (if b then without x xs else a ∷ without x xs)) (eq-eqb a.0 x same)
      ∙ ap (map (λ (p : ℕ × X). p.1))
      (without-absent xs x (λ i f. let two = once 0 (suc i) e f in absurd (omega (arith, two))))
  without-at (a ∷ xs) (suc k) x once e =
      let other : a.0 ≢ x = λ same. let two = once 0 (suc k) (ap Some same) e in absurd (omega (arith, two)) in
      ap (λ b. map (λ (p : ℕ × X). p.1) (if b then without x xs else a ∷ without x xs)) (ne_eqb a.0 x other)
      ∙ ap (λ ys. a.1 ∷ ys) (without-at xs k x
      (λ i j f h. let two = once (suc i) (suc j) f h in omega (arith, two)) e)
