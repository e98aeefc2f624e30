-- Each operation is of one kind, so each record adds one to one of the three counts.
use Rattle.std.proofs.Common.{◌≡◌, ◌+◌, List, [], ◌∷◌, length, cond, refl, arith}
use Rattle.std.proofs.lemmas.List.Sums.{sum_by-cons}
use Rattle.physiological_order.specs.declared.operation.Op.{Op}
use Rattle.physiological_order.specs.declared.operation.Op.TheVariants.{Load, Store, Swap}
use Rattle.physiological_order.specs.declared.operation.Record.{Record}
use Rattle.trace_texts.specs.Reports.{is_load_op, is_store, is_swap, loads_among, stores_among, swaps_among}
use Rattle.trace_texts.proofs.laws.counts_add_up.Goals as goal

of_one_kind : (op : Op) → cond (is_load_op op) 1 0 + cond (is_store op) 1 0 + cond (is_swap op) 1 0 ≡ 1
of_one_kind (Load word) = refl
of_one_kind (Store word value) = refl
of_one_kind (Swap word value) = refl

add_up : (rs : List Record) → loads_among rs + stores_among rs + swaps_among rs ≡ length rs
add_up [] = refl
add_up (r ∷ rs) =
    let loads = sum_by-cons (λ (s : Record). cond (is_load_op s.op) 1 0) r rs in
    let stores = sum_by-cons (λ (s : Record). cond (is_store s.op) 1 0) r rs in
    let swaps = sum_by-cons (λ (s : Record). cond (is_swap s.op) 1 0) r rs in
    omega (arith, add_up rs, loads, stores, swaps, of_one_kind r.op)

pub returns : goal.returns
returns c = add_up
