use Rattle.std.proofs.Common.{◌∷◌, [], ◌++◌, List, sym, take, subst, ◌∙◌, ap}
use Rattle.std.proofs.lemmas.List.{take_more}
use Rattle.physiological_order.specs.declared.operation.Record.{Record}
use Rattle.closed_machine.specs.LastWrites.{IsLast}
use Rattle.closed_machine.proofs.values.last_write.Goals as goal

pub loop-record-preserved : goal.loop-record-preserved
loop-record-preserved c =
    let rs = c.args.records.now in
    let i = c.loop-record.record-index in
    let r : Record = c.record-item.result in
    subst (λ (done : List Record). IsLast c.args.addr done c.last_write_with_record-last.result)
    (sym (take_more rs i r c.loop-record-test.true ∙ ap (λ (x : Record). take i rs ++ x ∷ []) (sym c.record-item.is)))
    (c.last_write_with_record-last.ensures (take i rs) c.loop-record.invariant)
