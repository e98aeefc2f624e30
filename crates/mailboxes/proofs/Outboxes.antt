-- An outbox without one of its messages.
use Rattle.std.proofs.Common.{◌≡◌, ℕ, zero, suc, List, [], ◌∷◌, Some}
use Rattle.std.specs.Prelude.{slice_get, remove}

-- what is left was there before
pub left_was : {A : Type 0} → (xs : List A) (i j : ℕ) (x : A) → slice_get (remove xs i) j ≡ Some x →
    (k : ℕ) × (slice_get xs k ≡ Some x)
left_was [] zero j x e = (j, e)
left_was [] (suc i) j x e = (j, e)
left_was (y ∷ ys) zero j x e = (suc j, e)
left_was (y ∷ ys) (suc i) zero x e = (zero, e)
left_was (y ∷ ys) (suc i) (suc j) x e = let r = left_was ys i j x e in (suc r.0, r.1)
