use Rattle.std.proofs.Common.{arith}
use Rattle.std.proofs.lemmas.Grind.{common_steps}
use Rattle.std.proofs.lemmas.List.Sums.{count_by-le-length}
use Rattle.tardis_c.proofs.lacks.count_items_by_core.Goals as goal

pub overflow_add-index_mut : goal.overflow_add-index_mut
overflow_add-index_mut g c =
    grind (
      arith,
      common_steps,
      count_by-le-length,
      c.loop-item.invariant c.core-core.result,
      c.in_ok-extend_counts.ensures.same c.core-core.result,
      c.index_mut.ensures.value,
    )
