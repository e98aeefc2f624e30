use Rattle.std.proofs.Common.{List, []}
use Rattle.physiological_order.specs.declared.operation.Op.{Op}
use Rattle.interleaving_core.proofs.PartRows.{one_alike}
use Rattle.interleaving_core.proofs.histories.empty_op_lists.Goals as goal

pub loop-preserved : goal.loop-preserved
loop-preserved c =
    let none : List Op = [] in
    let more = one_alike c.loop.counter none in
    cc c.in_ok-push.ensures.items
