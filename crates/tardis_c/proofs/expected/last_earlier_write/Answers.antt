use Rattle.std.proofs.Common.{List, [], ◌∷◌, ◌++◌, take, subst, sym, ap, ◌∙◌}
use Rattle.std.proofs.lemmas.List.{take_more}
use Rattle.physiological_order.specs.declared.operation.Record.{Record}
use Rattle.tardis_c.specs.Writes.{IsLastWrite}
use Rattle.tardis_c.proofs.expected.last_earlier_write.Goals as goal

pub loop-record-preserved : goal.loop-record-preserved
loop-record-preserved c =
    let records = c.args.records.now in
    let i = c.loop-record.record-index in
    let next = c.record-item.result in
    subst (λ (rs : List Record). IsLastWrite c.args.faulty.now rs c.later_write-last.result)
    (ap (λ (r : Record). take i records ++ r ∷ []) c.record-item.is ∙
    sym (take_more records i next c.loop-record-test.true))
    (c.later_write-last.ensures (take i records) c.loop-record.invariant)
