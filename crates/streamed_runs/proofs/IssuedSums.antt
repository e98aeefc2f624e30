-- How many operations the cores were issued: those that completed, and those that are open.
use Rattle.std.proofs.Common.{◌≡◌, ℕ, zero, suc, ◌+◌, ◌<◌, ◌==◌, Bool, false, cond, nat_lt, List, [], ◌∷◌, length, map}
use Rattle.std.proofs.Common.{Option, Some, None, refl, sym, ap, ap₂, ◌∙◌, arith, length-append}
use Rattle.std.specs.Prelude.{count_by, is_some, option_map, slice_get, slice_index_or}
use Rattle.std.specs.List.{AllByRecursion as Each}
use Rattle.std.proofs.lemmas.Bool.Decides.{nat_tests}
use Rattle.std.proofs.lemmas.List.Sums.{length-filter, sum_by-cons}
use Rattle.physiological_order.specs.declared.operation.Op.{Op}
use Rattle.physiological_order.specs.declared.operation.Record.{Record}
use Rattle.physiological_order.specs.Order.{of_core}
use Rattle.core_pts.specs.CoreTable.{CoreState}
use Rattle.machine_table.specs.Machine.{Machine, open_op, open_op_of, operation_of}
use Rattle.protocol.specs.Issued.{IsIssued, listed}
use Rattle.streamed_runs.specs.StreamStates.{issued_below, opens_below}

-- how many records are of cores below a number
abbrev done_below : List Record → ℕ → ℕ
done_below rs n = count_by (λ r. nat_lt r.core n) rs

none_less : (n : ℕ) → nat_lt n 0 ≡ false
none_less n = grind (arith, nat_tests)

none_below : (rs : List Record) → done_below rs 0 ≡ 0
none_below [] = refl
none_below (r ∷ rs) =
    sum_by-cons (λ (s : Record). cond (nat_lt s.core 0) 1 0) r rs
    ∙ ap₂ (λ (b : Bool) (n : ℕ). cond b 1 0 + n) (none_less r.core) (none_below rs)

one_core : (k n below here more : ℕ) → more ≡ below + here →
    cond (nat_lt k (suc n)) 1 0 + more ≡ (cond (nat_lt k n) 1 0 + below) + (cond (k == n) 1 0 + here)
one_core k n below here more is = grind (arith, nat_tests)

core_more : (rs : List Record) (n : ℕ) → done_below rs (suc n) ≡ done_below rs n + count_by (λ r. r.core == n) rs
core_more [] n = refl
core_more (r ∷ rs) n =
    sum_by-cons (λ (s : Record). cond (nat_lt s.core (suc n)) 1 0) r rs
    ∙ one_core r.core n (done_below rs n) (count_by (λ s. s.core == n) rs) (done_below rs (suc n)) (core_more rs n)
    ∙ ap₂ (λ (x y : ℕ). x + y) (sym (sum_by-cons (λ (s : Record). cond (nat_lt s.core n) 1 0) r rs))
    (sym (sum_by-cons (λ (s : Record). cond (s.core == n) 1 0) r rs))

one_below : (k n rest : ℕ) → k < n → cond (nat_lt k n) 1 0 + rest ≡ suc rest
one_below k n rest less = grind (arith, nat_tests)

all_below : (rs : List Record) (n : ℕ) → Each (λ r. r.core < n) rs → done_below rs n ≡ length rs
all_below [] n below = refl
all_below (r ∷ rs) n below =
    sum_by-cons (λ (s : Record). cond (nat_lt s.core n) 1 0) r rs
    ∙ one_below r.core n (done_below rs n) below.0 ∙ ap suc (all_below rs n below.1)

-- an open operation
open_one : (o : Option CoreState) → length (listed (operation_of o)) ≡ cond (is_some (open_op_of o)) 1 0
open_one None = refl
open_one (Some core) = by core.open_op
  where
    by : (op : Option Op) →
        length (listed op) ≡ cond (is_some {T = Op × Bool} (option_map (λ (op : Op). (op, core.is_out)) op)) 1 0
    by None = refl
    by (Some op) = refl

length_map : (rs : List Record) → length (map (λ r. r.op) rs) ≡ length rs
length_map [] = refl
length_map (r ∷ rs) = ap suc (length_map rs)

module _ (m : Machine) (issued : (core : ℕ) → IsIssued (slice_index_or m.issued core []) (of_core core m.records)
    (operation_of (slice_get m.cores core))) where
  core_issued : (core : ℕ) → length (slice_index_or m.issued core []) ≡ count_by (λ r. r.core == core) m.records
      + cond (is_some (open_op m core)) 1 0
  core_issued core =
      ap length (issued core).all
      ∙ length-append (map (λ r. r.op) (of_core core m.records)) (listed (operation_of (slice_get m.cores core)))
      ∙ ap₂ (λ (x y : ℕ). x + y)
      (length_map (of_core core m.records) ∙ length-filter (λ (r : Record). r.core == core) m.records)
      (open_one (slice_get m.cores core))

  below : (n : ℕ) → issued_below m n ≡ done_below m.records n + opens_below m n
  below zero = let none = none_below m.records in omega (arith, none)
  below (suc n) =
      let before = below n in let here = core_issued n in let more = core_more m.records n in
      omega (arith, before, here, more)

  pub all_issued : (n : ℕ) → Each (λ r. r.core < n) m.records → length m.records + opens_below m n ≡ issued_below m n
  all_issued n there = let all = below n in let done = all_below m.records n there in omega (arith, all, done)
