use Rattle.std.proofs.Common.{◌≡◌, length, take}
use Rattle.machine_table.specs.Opening.{open_core, row}
use Rattle.interleaving_core.proofs.reopening.reopen_cores.Given as goal

-- so many cores are as they open
abbrev pub invariant-loop-at : goal.invariant-loop-at
invariant-loop-at l = (take l.at l.cores.items ≡ row (open_core l.fn.config) 0 l.at)
    × (length l.cores.items ≡ length l.fn.cores.items)
