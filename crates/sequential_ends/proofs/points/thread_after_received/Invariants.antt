use Rattle.std.proofs.Common.{◌≡◌, length}
use Rattle.sequential_machine.specs.Turns.{resumed}
use Rattle.sequential_ends.proofs.points.thread_after_received.Given as goal

abbrev pub invariant-loop-value : goal.invariant-loop-value
invariant-loop-value l = resumed l.state l.left ≡ resumed l.initial.state l.initial.left

abbrev pub decreases-loop-value : goal.decreases-loop-value
decreases-loop-value l = length l.left
