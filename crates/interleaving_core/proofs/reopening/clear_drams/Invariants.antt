use Rattle.std.proofs.Common.{◌≡◌, length, replicate, take}
use Rattle.std.specs.FinMap.{empty}
use Rattle.interleaving_core.proofs.reopening.clear_drams.Given as goal

-- so many are empty
abbrev pub invariant-loop-at : goal.invariant-loop-at
invariant-loop-at l = (take l.at l.drams.items ≡ replicate l.at empty)
    × (length l.drams.items ≡ length l.fn.drams.items)
