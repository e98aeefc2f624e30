-- Two lists as one list of pairs.
use Rattle.std.proofs.Common.{◌≡◌, ℕ, zero, suc, List, [], ◌∷◌, length, Option, Some, None, refl, sym, ap, ap₂, ◌∙◌}
use Rattle.std.proofs.Common.{◌≤◌, arith}
use Rattle.std.specs.Prelude.{slice_get, slice_set}
use Rattle.std.specs.List.{zip}
use Rattle.thread_driver.proofs.Lists.{none_some}

module _ {A B : Type 0} where
  -- both of two values, if there are both
  abbrev both_of : Option A → Option B → Option (A × B)
  both_of None b = None
  both_of (Some a) None = None
  both_of (Some a) (Some b) = Some (a, b)

  not_both : (a : Option A) → None ≡ both_of a None
  not_both None = refl
  not_both (Some a) = refl

  pub both_there : (xs : List A) (ys : List B) (i : ℕ) →
      slice_get (zip xs ys) i ≡ both_of (slice_get xs i) (slice_get ys i)
  both_there (x ∷ xs) [] (suc i) = not_both (slice_get xs i)
  both_there (x ∷ xs) (y ∷ ys) (suc i) = both_there xs ys i
  both_there _ _ _ = refl

  pub pair_there : (xs : List A) (ys : List B) (i : ℕ) (x : A) (y : B) → slice_get xs i ≡ Some x →
      slice_get ys i ≡ Some y → slice_get (zip xs ys) i ≡ Some (x, y)
  pair_there xs ys i x y e f = both_there xs ys i ∙ ap₂ both_of e f

  -- the same at two places
  pub same_pair : (xs xs' : List A) (ys ys' : List B) (i j : ℕ) → slice_get xs i ≡ slice_get xs' j →
      slice_get ys i ≡ slice_get ys' j → slice_get (zip xs ys) i ≡ slice_get (zip xs' ys') j
  same_pair xs xs' ys ys' i j e f = both_there xs ys i ∙ ap₂ both_of e f ∙ sym (both_there xs' ys' j)

  parts_of : (a : Option A) (b : Option B) (x : A × B) → both_of a b ≡ Some x → (a ≡ Some x.0) × (b ≡ Some x.1)
  parts_of None b x e = none_some e
  parts_of (Some a) None x e = none_some e
  parts_of (Some a) (Some b) x e = let same : (a, b) ≡ x = cc in (ap (λ z. Some z.0) same, ap (λ z. Some z.1) same)

  pub parts_there : (xs : List A) (ys : List B) (i : ℕ) (x : A × B) → slice_get (zip xs ys) i ≡ Some x →
      (slice_get xs i ≡ Some x.0) × (slice_get ys i ≡ Some x.1)
  parts_there xs ys i x e = parts_of (slice_get xs i) (slice_get ys i) x (sym (both_there xs ys i) ∙ e)

  pub pairs_set : (xs : List A) (ys : List B) (i : ℕ) (x : A) (y : B) →
      slice_set (zip xs ys) i (x, y) ≡ zip (slice_set xs i x) (slice_set ys i y)
  pairs_set [] ys i x y = refl
  pairs_set (a ∷ xs) [] zero x y = refl
  pairs_set (a ∷ xs) [] (suc i) x y = refl
  pairs_set (a ∷ xs) (b ∷ ys) zero x y = refl
  pairs_set (a ∷ xs) (b ∷ ys) (suc i) x y = ap (λ zs. (a, b) ∷ zs) (pairs_set xs ys i x y)

  pub pairs_few : (xs : List A) (ys : List B) → length (zip xs ys) ≤ length xs
  pairs_few [] ys = omega arith
  pairs_few (x ∷ xs) [] = omega arith
  pairs_few (x ∷ xs) (y ∷ ys) = let a = pairs_few xs ys in omega arith

  pub pairs_long : (xs : List A) (ys : List B) → length ys ≡ length xs → length (zip xs ys) ≡ length xs
  pairs_long [] ys e = refl
  pairs_long (x ∷ xs) [] e = absurd (omega arith)
  pairs_long (x ∷ xs) (y ∷ ys) e = ap suc (pairs_long xs ys (omega arith))
