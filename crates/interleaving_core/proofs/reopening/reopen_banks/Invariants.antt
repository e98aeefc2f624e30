use Rattle.std.proofs.Common.{◌≡◌, length, take}
use Rattle.machine_table.specs.Opening.{open_bank, row}
use Rattle.interleaving_core.proofs.reopening.reopen_banks.Given as goal

-- so many banks are as they open
abbrev pub invariant-loop-at : goal.invariant-loop-at
invariant-loop-at l = (take l.at l.banks.items ≡ row (open_bank l.fn.config) 0 l.at)
    × (length l.banks.items ≡ length l.fn.banks.items)
