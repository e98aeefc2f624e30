-- The parts that a machine opens with, in rows.
use Rattle.std.proofs.Common.{◌≡◌, ℕ, zero, suc, ◌+◌, ◌<◌, length, Some, refl, ap, arith}
use Rattle.std.specs.Prelude.{slice_get}
use Rattle.machine_table.specs.Opening.{row}

module _ {X : Type 0} (part : ℕ → X) where
  pub row_at : (first n i k : ℕ) → i < n → first + i ≡ k → slice_get (row part first n) i ≡ Some (part k)
  row_at first zero i k lt e = absurd (omega arith)
  row_at first (suc n) zero k lt e = ap (λ j. Some (part j)) (let is : first ≡ k = omega (arith, e) in is)
  row_at first (suc n) (suc i) k lt e = row_at (first + 1) n i k (omega arith) (omega (arith, e))

  pub row_many : (first n : ℕ) → length (row part first n) ≡ n
  row_many first zero = refl
  row_many first (suc n) = ap suc (row_many (first + 1) n)
