use Rattle.std.proofs.Common.{◌≡◌, ◌≢◌, ◌+◌, ℕ, List, [], Vec, Global, length, arith, sym, ap, subst, ◌∙◌}
use Rattle.std.proofs.lemmas.List.{get_or-map}
use mathlib.Core.Logic.{dite}
use native.Mathlib.Decide.{ℕ_discrete}
use Rattle.physiological_order.specs.declared.operation.Op.{Op}
use Rattle.physiological_order.specs.declared.operation.Record.{Record}
use Rattle.physiological_order.specs.Faults.{issued_by}
use Rattle.report.specs.Complete.{AreAll, count_of_core}
use Rattle.report.proofs.complete.first_core_lacking_records.Goals as goal

one_more : (cores : ℕ) (issued : ℕ → List Op) (records : List Record) → AreAll cores issued records →
    count_of_core cores records ≡ length (issued cores) → AreAll (cores + 1) issued records
one_more cores issued records all here core below = dite (ℕ_discrete core cores)
    (λ (same : core ≡ cores). subst (λ (c : ℕ). count_of_core c records ≡ length (issued c)) (sym same) here)
    (λ (other : core ≢ cores). all core (omega arith))

pub loop-core-preserved : goal.loop-core-preserved
loop-core-preserved c =
    let lists = c.args.issued.now in
    let core = c.loop-core.core in
    let listed = get_or-map (λ (ops : Vec Op Global). ops.items) lists core c.index-issued-core.result []
    c.loop-core-test.true in
    let items : issued_by lists core ≡ c.index-issued-core.result.items =
    listed ∙ sym (ap (λ (ops : Vec Op Global). ops.items) c.index-issued-core.is) in
    one_more core (issued_by lists) c.args.records.now c.loop-core.invariant (sym c.count_records_of_core.ensures ∙
    c.if-count_records_of_core-as_slice.false
    ∙ ap (λ (ops : List Op). length ops) (c.as_slice.ensures.value ∙ sym items))
