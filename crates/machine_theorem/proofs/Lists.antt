-- Parts by number: one of them changed, and the first of them in a list.
use Rattle.std.proofs.Common.{◌≡◌, ℕ, zero, suc, ◌<◌, ◌≤◌, List, length, set, get_or, Some, refl, sym, ap, ◌∙◌, arith}
use Rattle.std.proofs.Common.{get_or-set_same, get_or-set_other, slice_get}
use Rattle.protocol.specs.Machine.{with_at}
use Rattle.protocol.proofs.Lemmas.{with_at_cases}
use Rattle.machine_theorem.specs.States.{first}

module _ {X : Type 0} where
  -- one part is changed in a function and in a list of the same parts
  pub part_put : (f : ℕ → X) (xs : List X) (d : ℕ → X) (i : ℕ) (x y : X) → ((j : ℕ) → f j ≡ get_or xs j (d j)) →
      x ≡ y → i < length xs → (j : ℕ) → with_at f i x j ≡ get_or (set xs i y) j (d j)
  part_put f xs d i x y same is lt =
      with_at_cases (λ j z. z ≡ get_or (set xs i y) j (d j)) f i x (is ∙ sym (get_or-set_same xs i y (d i) lt))
      (λ j ne. same j ∙ sym (get_or-set_other xs i j y (d j) ne))

  pub length-first : (f : ℕ → X) (n : ℕ) → length (first f n) ≡ n
  length-first f zero = refl
  length-first f (suc n) = ap suc (length-first (λ i. f (suc i)) n)

  pub first_at : (f : ℕ → X) (n k : ℕ) → k < n → slice_get (first f n) k ≡ Some (f k)
  first_at f zero k below = absurd (omega (arith, below))
  first_at f (suc n) zero below = refl
  first_at f (suc n) (suc k) below = first_at (λ i. f (suc i)) n k (omega (arith, below))

  -- the first of some parts, of which the others are these
  pub first_listed : (f d : ℕ → X) (n : ℕ) → ((i : ℕ) → n ≤ i → f i ≡ d i) → (i : ℕ) → f i ≡ get_or (first f n) i (d i)
  first_listed f d zero beyond i = beyond i (omega arith)
  first_listed f d (suc n) beyond zero = refl
  first_listed f d (suc n) beyond (suc i) =
      first_listed (λ k. f (suc k)) (λ k. d (suc k)) n (λ k le. beyond (suc k) (omega (arith, le))) i
