use Rattle.std.proofs.Common.{ℕ, List}
use Rattle.std.specs.Ordering.{nat_cmp}
use Rattle.std.specs.FinMap.{FinMap, empty}
use Rattle.interleaving_core.proofs.PartRows.{one_alike}
use Rattle.interleaving_core.proofs.opening.empty_drams.Goals as goal

pub loop-preserved : goal.loop-preserved
loop-preserved c =
    let none : FinMap nat_cmp (List ℕ) = empty in
    let more = one_alike c.loop.counter none in
    cc c.in_ok-push.ensures.items
