-- What holds of each of a list, when one of them changes.
use Rattle.std.proofs.Common.{◌≡◌, ℕ, zero, suc, List, [], ◌∷◌, Some, None, subst}
use Rattle.std.specs.Prelude.{slice_get, slice_set}
use Rattle.seat_views.proofs.Lemmas.{some_is}

none_some : {A B : Type 0} {y : A} → None ≡ Some y → B
none_some e = cc

module _ {A : Type 0} (holds : A → Type 0) where
  abbrev pub Each : List A → Type 0
  Each xs = (i : ℕ) (x : A) → slice_get xs i ≡ Some x → holds x

  pub each_but_one : (xs : List A) (i : ℕ) (new : A) → holds new → Each xs → Each (slice_set xs i new)
  each_but_one [] i new h all k x e = none_some e
  each_but_one (y ∷ ys) zero new h all zero x e = subst holds (some_is e) h
  each_but_one (y ∷ ys) zero new h all (suc k) x e = all (suc k) x e
  each_but_one (y ∷ ys) (suc i) new h all zero x e = all zero x e
  each_but_one (y ∷ ys) (suc i) new h all (suc k) x e =
      each_but_one ys i new h (λ j z f. all (suc j) z f) k x e
