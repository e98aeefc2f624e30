use Rattle.std.proofs.Common.{◌≡◌}
use Rattle.interleaving_core.proofs.kept_orders.forget_line_order_in_cores.Given as goal

abbrev pub invariant-loop-at : goal.invariant-loop-at
invariant-loop-at l = l.cores ≡ l.fn.cores
