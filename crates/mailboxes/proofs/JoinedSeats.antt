-- What a list has read backwards, and what is known of seats that were joined.
use Rattle.std.proofs.Common.{◌≡◌, ℕ, zero, suc, ◌+◌, ◌<◌, ◌≤◌, List, [], ◌∷◌, ◌++◌, length, length-append}
use Rattle.std.proofs.Common.{append_assoc, Option, Some, option_to_list, sym, refl, ap, ◌∙◌, arith}
use Rattle.std.specs.Prelude.{map, reverse, slice_get}
use Rattle.std.proofs.lemmas.List.{reverse-append}
use mathlib.Core.Option.{some, some-ne-none}
use lib.ListN.{get_elem?}
use Rattle.seat_views.proofs.Lemmas.{some_is}
use Rattle.mailboxes.specs.Remains.{backwards}
use Rattle.mailboxes.proofs.NewSeats.{none_some}

module _ {A : Type 0} where
  pub get_middle : (xs : List A) (x : A) (ys : List A) → slice_get (xs ++ x ∷ ys) (length xs) ≡ Some x
  get_middle [] x ys = refl
  get_middle (z ∷ xs) x ys = get_middle xs x ys

  pub get_front : (xs ys : List A) (i : ℕ) (x : A) → slice_get xs i ≡ Some x → slice_get (xs ++ ys) i ≡ Some x
  get_front [] ys i x e = none_some e
  get_front (y ∷ xs) ys zero x e = e
  get_front (y ∷ xs) ys (suc i) x e = get_front xs ys i x e

  pub at_more : (xs ys : List A) (i : ℕ) (a : A) → get_elem? ys i ≡ some a → (j : ℕ) × (get_elem? (xs ++ ys) j ≡ some a)
  at_more [] ys i a e = (i, e)
  at_more (x ∷ xs) ys i a e = let r = at_more xs ys i a e in (suc r.0, r.1)

  pub at_less : (xs ys : List A) (i : ℕ) (a : A) → get_elem? xs i ≡ some a → get_elem? (xs ++ ys) i ≡ some a
  at_less [] ys i a e = absurd (some-ne-none a (sym e))
  at_less (x ∷ xs) ys zero a e = e
  at_less (x ∷ xs) ys (suc i) a e = at_less xs ys i a e

  -- the last of a list is behind the others
  pub joined : (all old new done : List A) (o : Option A) (p : A) → all ≡ old ++ done → old ≡ new ++ option_to_list o →
      o ≡ Some p → all ≡ new ++ p ∷ done
  joined all old new done o p a b e =
      a ∙ ap (λ z. z ++ done) (b ∙ ap (λ z. new ++ option_to_list z) e) ∙ append_assoc new (p ∷ []) done

module _ {A B : Type 0} (f : A → B) where
  pub backwards_snoc : (xs : List A) (x : A) → backwards f (xs ++ x ∷ []) ≡ f x ∷ backwards f xs
  backwards_snoc [] x = refl
  backwards_snoc (y ∷ ys) x = ap (λ z. z ++ f y ∷ []) (backwards_snoc ys x)

  pub backwards_has : (xs : List A) (i : ℕ) (x : A) → slice_get xs i ≡ Some x →
      (q : ℕ) × (get_elem? (backwards f xs) q ≡ some (f x))
  backwards_has [] i x e = none_some e
  backwards_has (y ∷ ys) zero x e =
      at_more (backwards f ys) (f y ∷ []) 0 (f x) (ap (λ z. some (f z)) (some_is e))
  backwards_has (y ∷ ys) (suc i) x e =
      let r = backwards_has ys i x e in (r.0, at_less (backwards f ys) (f y ∷ []) r.0 (f x) r.1)

  -- read forwards again
  pub reversed : (xs : List A) → reverse (backwards f xs) ≡ map f xs
  reversed [] = refl
  reversed (y ∷ ys) = reverse-append (backwards f ys) (f y ∷ []) ∙ ap (λ z. f y ∷ z) (reversed ys)

  backwards_length : (xs : List A) → length (backwards f xs) ≡ length xs
  backwards_length [] = refl
  backwards_length (y ∷ ys) =
      length-append (backwards f ys) (f y ∷ []) ∙ ap (λ n. n + 1) (backwards_length ys) ∙ omega arith

  -- there is room for the part of the last of a list
  pub room_left : (all new done : List A) (p : A) (old now : List B) {room left : ℕ} → all ≡ new ++ p ∷ done →
      now ≡ old ++ backwards f done → length old + length all ≤ room → left ≡ room → length now < left
  room_left all new done p old now a is fits same =
      let parts = ap length is ∙ length-append old (backwards f done) in
      let long = backwards_length done in
      let whole = ap length a ∙ length-append new (p ∷ done) in
      omega arith
