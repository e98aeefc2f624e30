use Rattle.std.proofs.Common.{◌≡◌}
use Rattle.machine_table.specs.Opening.{open_core, row}
use Rattle.interleaving_core.proofs.opening.open_cores.Given as goal

abbrev pub invariant-loop-number : goal.invariant-loop-number
invariant-loop-number l = l.cores.items ≡ row (open_core l.fn.config) 0 l.number
