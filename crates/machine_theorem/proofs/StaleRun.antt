-- The run of a stale hit, by computation.
use Rattle.std.proofs.Common.{◌≡◌, ℕ, true, Option, get_or, refl, sym, ap, ◌∙◌, arith, unwrap_or, nat_cmp}
use Rattle.std.specs.FinMap.{FinMap, entries, get-entries}
use Rattle.physiological_order.specs.Order.{flat}
use Rattle.dram_mts.specs.Lines.{words_of}
use Rattle.machine_table.specs.SetUp.{is_good}
use Rattle.machine_table.specs.Opening.{dram_of, at_start}
use Rattle.machine_table.specs.Runs.{after_all}
use Rattle.machine_theorem.specs.StaleHit.{two_cores, stale_hit, stale_records}
use Rattle.machine_theorem.proofs.DramOpening.{dram_word}

-- the first word of DRAM as it opens
first_word : (opening : FinMap nat_cmp ℕ) → get_or (words_of (dram_of two_cores 0 (entries opening)) 0)
    0 0 ≡ flat opening 0
first_word opening = dram_word two_cores 0 (omega arith) (omega arith) (entries opening) 0 refl
    ∙ sym (ap (λ (o : Option ℕ). unwrap_or o 0) (get-entries opening 0))

as_computed : (opening : FinMap nat_cmp ℕ) → (after_all (at_start two_cores opening) stale_hit).records ≡
    stale_records (get_or (words_of (dram_of two_cores 0 (entries opening)) 0) 0 0)
as_computed opening = refl

pub stale_run : (opening : FinMap nat_cmp ℕ) → (after_all (at_start two_cores opening) stale_hit).records ≡
    stale_records (flat opening 0)
stale_run opening = as_computed opening ∙ ap stale_records (first_word opening)

pub two_cores_good : is_good two_cores ≡ true
two_cores_good = refl
