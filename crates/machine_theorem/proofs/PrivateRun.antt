-- The run of private writes, by computation.
use Rattle.std.proofs.Common.{◌≡◌, ℕ, ◌<◌, List, set, get_or, length, length-set, refl, ap, ◌∙◌, arith, nat_cmp}
use Rattle.std.specs.FinMap.{FinMap, entries}
use Rattle.std.proofs.lemmas.List.{get_or-set_same}
use Rattle.dram_mts.specs.Lines.{words_of}
use Rattle.machine_table.specs.Opening.{dram_of, at_start}
use Rattle.machine_table.specs.Runs.{after_all}
use Rattle.machine_theorem.specs.PrivateWrites.{private_cores, private_writes, private_records}
use Rattle.machine_theorem.proofs.DramOpening.{dram_long}

abbrev first_line : FinMap nat_cmp ℕ → List ℕ
first_line opening = words_of (dram_of private_cores 0 (entries opening)) 0

as_computed : (opening : FinMap nat_cmp ℕ) → (after_all (at_start private_cores opening) private_writes).records ≡
    private_records (get_or (set (set (first_line opening) 0 1) 0 2) 0 0)
as_computed opening = refl

-- a word that was set has its value
set_word : (words : List ℕ) → 0 < length words → get_or (set (set words 0 1) 0 2) 0 0 ≡ 2
set_word words some = let same =
    length-set words 0 1 in get_or-set_same (set words 0 1) 0 2 0 (omega (arith, same, some))

pub private_run : (opening : FinMap nat_cmp ℕ) → (after_all (at_start private_cores opening) private_writes).records
    ≡ private_records 2
private_run opening =
    let long = dram_long private_cores 0 (entries opening) 0 in
    as_computed opening ∙ ap private_records (set_word (first_line opening) (omega (arith, long)))
