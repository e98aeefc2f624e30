use Rattle.std.proofs.Common.{◌≡◌, length}
use Rattle.machine_theorem.specs.Coherence.{owner_words}
use Rattle.interleaving_core.proofs.line_words.owner_words.Given as goal

abbrev pub invariant-loop-core : goal.invariant-loop-core
invariant-loop-core l = owner_words l.left l.fn.line ≡ owner_words l.fn.cores l.fn.line

abbrev pub decreases-loop-core : goal.decreases-loop-core
decreases-loop-core l = length l.left
