use Rattle.std.proofs.Common.{◌≡◌, ◌≤◌, ◌+◌, ◌/◌, drop, length}
use Rattle.ranked_lines.specs.Rising.{sorted}
use Rattle.ranked_lines.proofs.blocks.Blocks.refill.Given as goal

abbrev pub invariant-loop-left : goal.invariant-loop-left
invariant-loop-left l = record {
  within : l.left ≤ length l.numbers;
  kept : l.self.0 ≡ sorted (drop l.left l.numbers);
  room : l.fn.most / 32 + 2 ≤ l.self.1;
}

abbrev pub decreases-loop-left : goal.decreases-loop-left
decreases-loop-left l = l.left
