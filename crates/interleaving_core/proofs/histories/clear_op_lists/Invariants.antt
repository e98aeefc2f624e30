use Rattle.std.proofs.Common.{◌≡◌, [], length, replicate, take}
use Rattle.interleaving_core.proofs.histories.clear_op_lists.Given as goal

-- so many are empty
abbrev pub invariant-loop-at : goal.invariant-loop-at
invariant-loop-at l = (take l.at l.issued.items ≡ replicate l.at [])
    × (length l.issued.items ≡ length l.fn.issued.items)
