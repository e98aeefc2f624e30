use Rattle.std.proofs.Common.{◌≡◌}
use Rattle.machine_table.specs.Opening.{open_bank, row}
use Rattle.interleaving_core.proofs.opening.open_banks.Given as goal

abbrev pub invariant-loop-number : goal.invariant-loop-number
invariant-loop-number l = l.banks.items ≡ row (open_bank l.fn.config) 0 l.number
