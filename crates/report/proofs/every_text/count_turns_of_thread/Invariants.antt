use Rattle.std.proofs.Common.{◌≡◌, ◌+◌, ◌≤◌, length}
use Rattle.report.specs.EveryText.{times}
use Rattle.report.proofs.every_text.count_turns_of_thread.Given as goal

abbrev pub invariant-loop-other : goal.invariant-loop-other
invariant-loop-other l =
    (l.count + times l.thread l.left ≡ times l.thread l.done) × (l.count + length l.left ≤ length l.done)

abbrev pub decreases-loop-other : goal.decreases-loop-other
decreases-loop-other l = length l.left
