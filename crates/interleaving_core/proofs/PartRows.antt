-- Parts in a row, one more at the end.
use Rattle.std.proofs.Common.{◌≡◌, ℕ, zero, suc, ◌+◌, ◌++◌, List, [], ◌∷◌, replicate, refl, ap, ◌∙◌, arith}
use Rattle.core_pts.specs.CoreTable.{opened}
use Rattle.llc_bank.specs.BankTable.{empty_bank}
use Rattle.machine_table.specs.declared.config.Config.{Config}
use Rattle.machine_table.specs.Opening.{bank_config, core_config, geometry, open_bank, open_core, row}

module _ {X : Type 0} (part : ℕ → X) where
  behind : (start n : ℕ) → row part start n ++ part (start + n) ∷ [] ≡ row part start (suc n)
  behind start zero = ap (λ k. part k ∷ []) (omega arith)
  behind start (suc n) =
      ap (λ (xs : List X). part start ∷ xs)
      (ap (λ k. row part (start + 1) n ++ part k ∷ []) (omega arith) ∙ behind (start + 1) n)

  next : (n : ℕ) → row part 0 n ++ part n ∷ [] ≡ row part 0 (n + 1)
  next n =
      (let from_0 : n ≡ 0 + n = omega arith in ap (λ k. row part 0 n ++ part k ∷ []) from_0)
      ∙ behind 0 n ∙ (let more : suc n ≡ n + 1 = omega arith in ap (λ k. row part 0 k) more)

pub next_core : (c : Config) (n : ℕ) → row (open_core c) 0 n ++ opened (core_config c n) (geometry c) ∷ [] ≡
    row (open_core c) 0 (n + 1)
next_core c n = next (open_core c) n

pub next_bank : (c : Config) (n : ℕ) → row (open_bank c) 0 n ++ empty_bank (bank_config c n) ∷ [] ≡
    row (open_bank c) 0 (n + 1)
next_bank c n = next (open_bank c) n

pub one_alike : {X : Type 0} (n : ℕ) (x : X) → replicate n x ++ x ∷ [] ≡ replicate (n + 1) x
one_alike {X} n x = end n ∙ (let more : suc n ≡ n + 1 = omega arith in ap (λ k. replicate k x) more)
  where
    end : (n : ℕ) → replicate n x ++ x ∷ [] ≡ replicate (suc n) x
    end zero = refl
    end (suc n) = ap (λ (xs : List X). x ∷ xs) (end n)
