use Rattle.std.proofs.Common.{◌≡◌, ◌+◌, ◌<◌, ◌≤◌, ◌==◌, ℕ, cond, List, [], ◌∷◌, ◌++◌, map, filter, take, set, get_or}
use Rattle.std.proofs.Common.{length, append-nil, ap, ap₂, sym, subst, ◌∙◌, arith, inl, inr, true, false}
use Rattle.std.proofs.Common.{get_or-set_same, get_or-set_other}
use Rattle.std.proofs.lemmas.Bool.{cases_Bool, cases_eq}
use Rattle.std.proofs.lemmas.Bool.Decides.{nat_tests}
use Rattle.std.proofs.lemmas.List.{get_or-map, length-map, map-append, map-set}
use Rattle.std.proofs.lemmas.List.Elements.{filter_more}
use Rattle.std.specs.declared.vec.Vec.{Vec}
use Rattle.std.specs.declared.alloc.Global.{Global}
use Rattle.physiological_order.specs.declared.operation.Op.{Op}
use Rattle.physiological_order.specs.Faults.{IssuedLists, issued_by}
use Rattle.tardis_c.specs.Plain.{issued_of, op_of}
use Rattle.tardis_c.specs.declared.plain.PlainOperation.{PlainOperation}
use Rattle.tardis_c.proofs.arrays.issued_lists.Goals as goal

abbrev items_of : Vec Op Global → List Op
items_of ops = ops.items

-- another list for a core
set_list : (lists : IssuedLists) (at : ℕ) (ops : Vec Op Global) (core : ℕ) → at < length lists →
    issued_by (set lists at ops) core ≡ cond (at == core) ops.items (issued_by lists core)
set_list lists at ops core lt =
    let all = map items_of lists in
    let whole = ap (λ (ls : List (List Op)). get_or ls core []) (map-set items_of lists at ops) in
    elim (cases_eq at core) [
      | inl e ↦
          let test : (at == core) ≡ true = grind (arith, nat_tests) in
          rw test (whole ∙ subst (λ k. get_or (set all at ops.items) k [] ≡ ops.items) e
          (get_or-set_same all at ops.items [] (omega (arith, lt, length-map lists items_of))))
      | inr ne ↦
          let test : (at == core) ≡ false = grind (arith, nat_tests) in
          rw test (whole ∙ get_or-set_other all at core ops.items [] (λ e. ne (sym e)))
    ]

-- one more operation
next_issued : (xs : List PlainOperation) (i : ℕ) (d : PlainOperation) (core : ℕ) → i < length xs →
    issued_of (take (i + 1) xs) core
    ≡ cond ((get_or xs i d).core == core) (issued_of (take i xs) core ++ op_of (get_or xs i d) ∷ [])
    (issued_of (take i xs) core)
next_issued xs i d core lt =
    let kept = filter (λ (plain : PlainOperation). plain.core == core) (take i xs) in
    ap (map op_of) (filter_more (λ plain. plain.core == core) xs i d lt) ∙
    elim (cases_Bool ((get_or xs i d).core == core)) [
      | inl e ↦ rw e (map-append op_of kept (get_or xs i d ∷ []))
      | inr e ↦ rw e (ap (map op_of) (append-nil kept))
    ]

next_lists : (xs : List PlainOperation) (i : ℕ) (d : PlainOperation) (op : Op) (old new : IssuedLists)
    (list : Vec Op Global) → i < length xs → (get_or xs i d).core + 1 ≤ length new → op ≡ op_of (get_or xs i d) →
    ((k : ℕ) → issued_by old k ≡ issued_of (take i xs) k) → ((k : ℕ) → issued_by new k ≡ issued_by old k) →
    list.items ≡ issued_by new (get_or xs i d).core ++ op ∷ [] →
    (k : ℕ) → issued_by (set new (get_or xs i d).core list) k ≡ issued_of (take (i + 1) xs) k
next_lists xs i d op old new list lt long is before same items k =
    let at = (get_or xs i d).core in
    let done = issued_of (take i xs) in
    let others = same k ∙ before k in
    set_list new at list k (omega (arith, long)) ∙
    elim (cases_eq at k) [
      | inl e ↦ ap₂ (cond (at == k))
          (items ∙ ap₂ (λ ops o. ops ++ o ∷ []) (same at ∙ before at ∙ ap done e) is) others
      | inr ne ↦
          let test : (at == k) ≡ false = grind (arith, nat_tests) in
          rw test others
    ] ∙ sym (next_issued xs i d k lt)

pub loop-operation-preserved : goal.loop-operation-preserved
loop-operation-preserved c =
    let xs = c.args.operations.now in
    let i = c.loop-operation.operation-index in
    let new = c.extend_lists.new.lists.items in
    let was = c.index_mut.result.now in
    next_lists xs i _ c.op_of.result c.loop-operation.lists.items new c.push.new.self c.loop-operation-test.true
    c.in_ok-extend_lists.ensures.long c.op_of.ensures c.loop-operation.invariant c.in_ok-extend_lists.ensures.same
    (c.in_ok-push.ensures.items ∙ ap (λ (ops : List Op). ops ++ c.op_of.result ∷ [])
    (ap items_of c.index_mut.ensures.value ∙
    sym (get_or-map items_of new (get_or xs i _).core was [] (omega (arith, c.in_ok-extend_lists.ensures.long)))))
