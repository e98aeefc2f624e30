use Rattle.std.proofs.Common.{sym}
use Rattle.ranked_lines.proofs.SortedLists.{rises-put_in}
use Rattle.ranked_lines.proofs.blocks.Blocks.put_in.Goals as goal

pub invariant_of-self-then-block_size-lt128 : goal.invariant_of-self-then-block_size-lt128
invariant_of-self-then-block_size-lt128 c = (
  rw (sym c.put_number_in_block.ensures.put) at (rises-put_in c.args.number _ c.self.invariant.0),
  c.put_number_in_block.ensures.filled,
  c.put_number_in_block.ensures.dense c.self.invariant.2,
)

pub invariant_of-self-2 : goal.invariant_of-self-2
invariant_of-self-2 c = (
  rw (sym c.put_number_in_block-2.ensures.put) at (rises-put_in c.args.number _
      (rw (sym c.split_full_block.ensures.same) at c.self.invariant.0)),
  c.put_number_in_block-2.ensures.filled,
  c.put_number_in_block-2.ensures.dense (c.split_full_block.ensures.dense c.self.invariant.1 c.self.invariant.2),
)
