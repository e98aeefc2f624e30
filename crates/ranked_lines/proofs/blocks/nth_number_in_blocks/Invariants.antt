use Rattle.std.proofs.Common.{◌≡◌, drop, slice_get}
use Rattle.ranked_lines.specs.Rising.{all_but}
use Rattle.ranked_lines.specs.Blocked.{joined}
use Rattle.ranked_lines.proofs.blocks.nth_number_in_blocks.Given as goal

abbrev pub invariant-loop-block : goal.invariant-loop-block
invariant-loop-block l =
    slice_get (all_but l.but (joined (drop l.block-index l.blocks))) l.left
    ≡ slice_get (all_but l.but (joined l.blocks)) l.at
