use Rattle.std.proofs.Common.{◌∷◌, [], ◌++◌, List, sym, take, subst, ◌∙◌, ap}
use Rattle.std.proofs.lemmas.List.{take_all, take_more}
use Rattle.physiological_order.specs.declared.operation.Record.{Record}
use Rattle.closed_machine.specs.LastWrites.{AreLast}
use Rattle.closed_machine.proofs.AllWords.{none_yet}
use Rattle.closed_machine.proofs.values.last_writes.Goals as goal

pub loop-record-init : goal.loop-record-init
loop-record-init c = none_yet c.new-lasts.result c.new-lasts.ensures

pub loop-record-preserved : goal.loop-record-preserved
loop-record-preserved c =
    let rs = c.args.records.now in
    let i = c.loop-record.record-index in
    let r : Record = c.record-item.result in
    subst (λ (done : List Record). AreLast done c.update_last_writes.new.lasts)
    (sym (take_more rs i r c.loop-record-test.true ∙ ap (λ (x : Record). take i rs ++ x ∷ []) (sym c.record-item.is)))
    (c.in_ok-update_last_writes.ensures (take i rs) c.loop-record.invariant)

pub returns : goal.returns
returns c =
    subst (λ (done : List Record). AreLast done c.loop-record.lasts)
    (take_all c.loop-record.record-index c.args.records.now c.loop-record-test.false) c.loop-record.invariant
