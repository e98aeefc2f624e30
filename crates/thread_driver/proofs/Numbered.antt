-- The parts of a machine in lists, and those of a machine as it opens.
use Rattle.std.proofs.Common.{◌≡◌, ℕ, zero, suc, ◌<◌, ◌≤◌, List, [], replicate, refl, arith}
use Rattle.std.specs.Prelude.{slice_index_or}
use Rattle.physiological_order.specs.declared.operation.Op.{Op}
use Rattle.machine_theorem.specs.States.{first}

module _ {X : Type 0} where
  pub index_at : (f : ℕ → X) (n k : ℕ) (d : X) → k < n → slice_index_or (first f n) k d ≡ f k
  index_at f zero k d below = absurd (omega (arith, below))
  index_at f (suc n) zero d below = refl
  index_at f (suc n) (suc k) d below = index_at (λ i. f (suc i)) n k d (omega (arith, below))

  pub index_past : (f : ℕ → X) (n k : ℕ) (d : X) → n ≤ k → slice_index_or (first f n) k d ≡ d
  index_past f zero k d past = refl
  index_past f (suc n) zero d past = absurd (omega (arith, past))
  index_past f (suc n) (suc k) d past = index_past (λ i. f (suc i)) n k d (omega (arith, past))

-- no core opens with operations
pub nothing_issued : (n k : ℕ) → slice_index_or (let lists : List (List Op) = replicate n [] in lists) k [] ≡ []
nothing_issued zero k = refl
nothing_issued (suc n) zero = refl
nothing_issued (suc n) (suc k) = nothing_issued n k
