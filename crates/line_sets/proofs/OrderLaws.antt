-- Laws of one set: look-ups after each change, lengths, and that no line comes twice.
use Rattle.std.proofs.Common.{◌≡◌, ◌≢◌, ℕ, ◌+◌, ◌<◌, ◌≤◌, true, false, List, [], ◌∷◌, ◌++◌, length}
use Rattle.std.proofs.Common.{Some, None, refl, ap, ◌∙◌, arith}
use Rattle.std.specs.Option.{is_some}
use Rattle.line_sets.specs.Order.{find, is_there, put_in_place, put_last, without, IsDistinct}

module _ {X : Type 0} where
  -- a line taken out
  pub find-without_other : (ps : List (ℕ × X)) (l j : ℕ) → j ≢ l → find (without ps l) j ≡ find ps j
  find-without_other [] l j ne = refl
  find-without_other (p ∷ ps) l j ne = let rest = find-without_other ps l j ne in grind arith

  pub find-without_same : (ps : List (ℕ × X)) (l : ℕ) → find (without ps l) l ≡ None
  find-without_same [] l = refl
  find-without_same (p ∷ ps) l = let rest = find-without_same ps l in grind arith

  -- a line put at the end
  find-push_new : (ps : List (ℕ × X)) (l : ℕ) (x : X) → find ps l ≡ None → find (ps ++ (l, x) ∷ []) l ≡ Some x
  find-push_new [] l x h = grind arith
  find-push_new (p ∷ ps) l x h = let rest = find-push_new ps l x in grind arith

  find-push_other : (ps : List (ℕ × X)) (l j : ℕ) (x : X) → j ≢ l → find (ps ++ (l, x) ∷ []) j ≡ find ps j
  find-push_other [] l j x ne = grind arith
  find-push_other (p ∷ ps) l j x ne = let rest = find-push_other ps l j x ne in grind arith

  pub find-put_last_same : (ps : List (ℕ × X)) (l : ℕ) (x : X) → find (put_last ps l x) l ≡ Some x
  find-put_last_same ps l x = find-push_new (without ps l) l x (find-without_same ps l)

  pub find-put_last_other : (ps : List (ℕ × X)) (l j : ℕ) (x : X) → j ≢ l → find (put_last ps l x) j ≡ find ps j
  find-put_last_other ps l j x ne = find-push_other (without ps l) l j x ne ∙ find-without_other ps l j ne

  -- a line put in place
  pub find-put_in_place_same : (ps : List (ℕ × X)) (l : ℕ) (x : X) → is_there ps l ≡ true →
      find (put_in_place ps l x) l ≡ Some x
  find-put_in_place_same [] l x h = cc
  find-put_in_place_same (p ∷ ps) l x h = let rest = find-put_in_place_same ps l x in grind arith

  pub find-put_in_place_other : (ps : List (ℕ × X)) (l j : ℕ) (x : X) → j ≢ l →
      find (put_in_place ps l x) j ≡ find ps j
  find-put_in_place_other [] l j x ne = refl
  find-put_in_place_other (p ∷ ps) l j x ne = let rest = find-put_in_place_other ps l j x ne in grind arith

  -- lengths
  pub length-without_le : (ps : List (ℕ × X)) (l : ℕ) → length (without ps l) ≤ length ps
  length-without_le [] l = omega arith
  length-without_le (p ∷ ps) l = let rest = length-without_le ps l in grind arith

  missing-length : (ps : List (ℕ × X)) (l : ℕ) → is_there ps l ≡ false → length (without ps l) ≡ length ps
  missing-length [] l h = refl
  missing-length (p ∷ ps) l h = let rest = missing-length ps l in grind arith

  pub length-without_there : (ps : List (ℕ × X)) (l : ℕ) → is_there ps l ≡ true → length (without ps l) < length ps
  length-without_there [] l h = cc
  length-without_there (p ∷ ps) l h =
      let rest = length-without_there ps l in let le = length-without_le ps l in grind arith

  one-fewer : (p : ℕ × X) (ps : List (ℕ × X)) (l : ℕ) → (p.0 ≡ l → is_there ps l ≡ false) →
      (is_there ps l ≡ false → length (without ps l) ≡ length ps) →
      (is_there ps l ≡ true → length (without ps l) + 1 ≡ length ps) →
      is_there (p ∷ ps) l ≡ true → length (without (p ∷ ps) l) + 1 ≡ length (p ∷ ps)
  one-fewer p ps l gone same rest h = grind arith

  pub length-without_exact : (ps : List (ℕ × X)) (l : ℕ) → IsDistinct ps → is_there ps l ≡ true →
      length (without ps l) + 1 ≡ length ps
  length-without_exact [] l once h = cc
  length-without_exact (p ∷ ps) l once h =
      one-fewer p ps l (λ e. rw (← e) once.0) (missing-length ps l) (length-without_exact ps l once.1) h

  pub length-put_in_place : (ps : List (ℕ × X)) (l : ℕ) (x : X) → length (put_in_place ps l x) ≡ length ps
  length-put_in_place [] l x = refl
  length-put_in_place (p ∷ ps) l x = let rest = length-put_in_place ps l x in grind arith

  -- no line comes twice
  there_without : (ps : List (ℕ × X)) (l j : ℕ) → is_there ps j ≡ false → is_there (without ps l) j ≡ false
  there_without [] l j h = refl
  there_without (p ∷ ps) l j h = let rest = there_without ps l j in grind arith

  pub IsDistinct-without : (ps : List (ℕ × X)) (l : ℕ) → IsDistinct ps → IsDistinct (without ps l)
  IsDistinct-without [] l h = tt
  IsDistinct-without (p ∷ ps) l h =
      let rest = IsDistinct-without ps l h.1 in let gone = there_without ps l p.0 h.0 in grind arith

  IsDistinct-push : (ps : List (ℕ × X)) (l : ℕ) (x : X) → IsDistinct ps → is_there ps l ≡ false →
      IsDistinct (ps ++ (l, x) ∷ [])
  IsDistinct-push [] l x h i = (refl, tt)
  IsDistinct-push (p ∷ ps) l x h i =
      let rest = IsDistinct-push ps l x h.1 in let other = find-push_other ps l p.0 x in grind arith

  pub IsDistinct-put_last : (ps : List (ℕ × X)) (l : ℕ) (x : X) → IsDistinct ps → IsDistinct (put_last ps l x)
  IsDistinct-put_last ps l x h =
      IsDistinct-push (without ps l) l x (IsDistinct-without ps l h) (ap is_some (find-without_same ps l))
