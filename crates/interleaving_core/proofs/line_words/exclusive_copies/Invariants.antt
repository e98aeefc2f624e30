use Rattle.std.proofs.Common.{◌≡◌, ◌+◌, ◌≤◌, length}
use Rattle.machine_theorem.specs.Coherence.{exclusive_copies}
use Rattle.interleaving_core.proofs.line_words.exclusive_copies.Given as goal

abbrev pub invariant-loop-core : goal.invariant-loop-core
invariant-loop-core l = (l.count + exclusive_copies l.left l.fn.line ≡ exclusive_copies l.fn.cores l.fn.line) ×
    (l.count + length l.left ≤ length l.fn.cores)

abbrev pub decreases-loop-core : goal.decreases-loop-core
decreases-loop-core l = length l.left
