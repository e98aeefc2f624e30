use Rattle.std.proofs.lemmas.Result.{IfOk-weaker}
use Rattle.physiological_order.specs.Order.{flat}
use Rattle.closed_machine.proofs.AllWords.{values_are_left}
use Rattle.closed_machine.proofs.values.values_after_records.Goals as goal

pub returns : goal.returns
returns c =
    IfOk-weaker c.values_after_writes.result _ _ (λ values is.
    values_are_left (flat c.args.opening.now) c.args.records.now c.in_ok-lasts.lasts c.args.words.now values.items
    c.in_ok-lasts.ensures is) c.values_after_writes.ensures
