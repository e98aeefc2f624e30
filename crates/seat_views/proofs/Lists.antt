-- Lists that are looked up by number: with one more at an end, and read backwards.
use Rattle.std.proofs.Common.{◌≡◌, ℕ, zero, suc, ◌+◌, List, [], ◌∷◌, ◌++◌, length, append_assoc}
use Rattle.std.proofs.Common.{Option, Some, option_to_list, ◌⊎◌, inl, inr, ⊎_elim, sym, refl, ap, ◌∙◌, subst, arith}
use Rattle.std.specs.Prelude.{slice_get}
use mathlib.Core.Option.{some}
use lib.ListN.{get_elem?}
use Rattle.atomic_table.proofs.Lists.{at_longer}
use Rattle.seat_views.proofs.Sums.{some_is}

module _ {A : Type 0} where
  pub get_snoc : (xs : List A) (x y : A) (i : ℕ) → slice_get (xs ++ x ∷ []) i ≡ Some y →
      (slice_get xs i ≡ Some y) ⊎ ((i ≡ length xs) × (x ≡ y))
  get_snoc [] x y zero e = inr (refl, some_is e)
  get_snoc [] x y (suc i) e = cc
  get_snoc (z ∷ xs) x y zero e = inl e
  get_snoc (z ∷ xs) x y (suc i) e = ⊎_elim inl (λ t. inr (ap suc t.0, t.1)) (get_snoc xs x y i e)

  pub get_middle : (xs : List A) (x : A) (ys : List A) → slice_get (xs ++ x ∷ ys) (length xs) ≡ Some x
  get_middle [] x ys = refl
  get_middle (z ∷ xs) x ys = get_middle xs x ys

  pub get_front : (xs ys : List A) (i : ℕ) (x : A) → slice_get xs i ≡ Some x → slice_get (xs ++ ys) i ≡ Some x
  get_front [] ys i x e = cc
  get_front (y ∷ xs) ys zero x e = e
  get_front (y ∷ xs) ys (suc i) x e = get_front xs ys i x e

  pub at_more : (xs ys : List A) (i : ℕ) (a : A) → get_elem? ys i ≡ some a → (j : ℕ) × (get_elem? (xs ++ ys) j ≡ some a)
  at_more [] ys i a e = (i, e)
  at_more (x ∷ xs) ys i a e = let r = at_more xs ys i a e in (suc r.0, r.1)

  -- the last of a list is apart from the others, and behind them
  pub split_of : (all rest : List A) (o : Option A) (last : A) → all ≡ rest ++ option_to_list o → o ≡ Some last →
      all ≡ rest ++ last ∷ []
  split_of all rest o last a is = a ∙ ap (λ (x : Option A). rest ++ option_to_list x) is

  pub joined : (all old new done : List A) (o : Option A) (p : A) → all ≡ old ++ done → old ≡ new ++ option_to_list o →
      o ≡ Some p → all ≡ new ++ p ∷ done
  joined all old new done o p a b e =
      a ∙ ap (λ z. z ++ done) (split_of old new o p b e) ∙ append_assoc new (p ∷ []) done

  -- what each of a list is by its number, with one more at the end and one more in front
  module _ (P : ℕ → A → Type 0) where
    pub more_at : (from : ℕ) (xs all : List A) (x : A) → all ≡ xs ++ x ∷ [] →
        ((i : ℕ) (y : A) → slice_get xs i ≡ Some y → P (from + i) y) → P (from + length xs) x →
        (i : ℕ) (y : A) → slice_get all i ≡ Some y → P (from + i) y
    more_at from xs all x is old new i y at =
        ⊎_elim (old i y)
        (λ e. subst (λ (z : ℕ × A). P (from + z.0) z.1) (λ j. (sym e.0 j, e.1 j)) new)
        (get_snoc xs x y i (ap (λ z. slice_get z i) (sym is) ∙ at))

    pub front_at : (xs : List A) (x : A) → ((i : ℕ) (y : A) → slice_get xs i ≡ Some y → P (1 + i) y) → P 0 x →
        (i : ℕ) (y : A) → slice_get (x ∷ xs) i ≡ Some y → P (0 + i) y
    front_at xs x all new zero y at = subst (P 0) (some_is at) new
    front_at xs x all new (suc i) y at = subst (λ k. P k y) (omega arith) (all i y at)

-- a list read backwards has what the list has
pub backwards_has : {A B : Type 0} → (f : A → B) (back : List A → List B) →
    ((x : A) (xs : List A) → back (x ∷ xs) ≡ back xs ++ f x ∷ []) → (xs : List A) (i : ℕ) (x : A) →
    slice_get xs i ≡ Some x → (q : ℕ) × (get_elem? (back xs) q ≡ some (f x))
backwards_has f back step [] i x e = cc
backwards_has f back step (y ∷ ys) zero x e =
    let r = at_more (back ys) (f y ∷ []) 0 (f x) (ap (λ z. some (f z)) (some_is e)) in
    (r.0, ap (λ z. get_elem? z r.0) (step y ys) ∙ r.1)
backwards_has f back step (y ∷ ys) (suc i) x e =
    let r = backwards_has f back step ys i x e in
    (r.0, ap (λ z. get_elem? z r.0) (step y ys) ∙ at_longer (back ys) (f y ∷ []) r.0 (f x) r.1)
