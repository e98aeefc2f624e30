use Rattle.std.proofs.Common.{◌-◌, ◌≤◌, length}
use Rattle.ranked_lines.specs.Blocked.{block_at}
use Rattle.ranked_lines.proofs.blocks.block_at.Given as goal

abbrev pub invariant-loop-low : goal.invariant-loop-low
invariant-loop-low l = record {
  within : l.high ≤ length l.blocks;
  behind : l.low ≤ block_at l.number l.blocks;
  before : block_at l.number l.blocks ≤ l.high;
}

abbrev pub decreases-loop-low : goal.decreases-loop-low
decreases-loop-low l = l.high - l.low
