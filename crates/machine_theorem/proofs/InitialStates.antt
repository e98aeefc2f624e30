-- The initial state, part by part.
use Rattle.std.proofs.Common.{◌≡◌, ℕ, zero, suc, ◌+◌, List, [], get_or, replicate, refl, sym, ap, ◌∙◌, arith, nat_cmp}
use Rattle.std.proofs.Common.{rules}
use Rattle.std.specs.FinMap.{FinMap}
use Rattle.machine_table.specs.declared.config.Config.{Config}
use Rattle.machine_table.specs.Opening.{at_start, row}
use Rattle.machine_theorem.specs.States.{Same, seen, initial_state}
use Rattle.machine_theorem.proofs.ByParts.{same_by}

-- parts in a row, part by part
module _ {X : Type 0} (part : ℕ → X) where
  parts_from : (number n k : ℕ) (d : X) → part (number + k) ≡ d → part (number + k) ≡ get_or (row part number n) k d
  parts_from number zero k d is = is
  parts_from number (suc n) zero d is = ap part (omega arith)
  parts_from number (suc n) (suc k) d is =
      let later : part (number + suc k) ≡ part (number + 1 + k) = ap part (omega arith) in
      later ∙ parts_from (number + 1) n k d (sym later ∙ is)

  pub parts_at : (n k : ℕ) → part k ≡ get_or (row part 0 n) k (part k)
  parts_at n k = let at : part (0 + k) ≡ part k = ap part (omega arith) in sym at ∙ parts_from 0 n k (part k) at

none_issued : {X : Type 0} (n k : ℕ) → [] ≡ get_or {A = List X} (replicate n []) k []
none_issued (suc n) (suc k) = none_issued n k
none_issued _ _ = refl

pub opening_same : (config : Config) (opening : FinMap nat_cmp ℕ) →
    Same (initial_state config opening) (seen (at_start config opening))
opening_same config opening = search (rules, same_by, parts_at, none_issued)
