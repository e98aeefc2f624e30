use Rattle.std.proofs.Common.{◌-◌}
use Rattle.line_arena.proofs.EmptiedLists.{IsHalfway}
use Rattle.line_arena.proofs.chains.Chains.empty_lists.Given as goal

-- so many cells were taken out
abbrev pub invariant-loop-at : goal.invariant-loop-at
invariant-loop-at g l = IsHalfway l.at l.initial.self l.self

abbrev pub decreases-loop-at : goal.decreases-loop-at
decreases-loop-at g l = l.self.used - l.at
