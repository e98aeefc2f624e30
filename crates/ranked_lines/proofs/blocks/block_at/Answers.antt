use Rattle.std.proofs.Common.{arith}
use Rattle.ranked_lines.proofs.BlockedLists.{at-bound, block-ahead, block-behind, block-rises, block-some}
use Rattle.ranked_lines.proofs.blocks.block_at.Goals as goal

pub loop-low-init : goal.loop-low-init
loop-low-init c = let le = at-bound c.args.number c.args.blocks.now in record {
  within = omega arith;
  behind = omega arith;
  before = le;
}

pub list_ends_below-requires-clause-rises : goal.list_ends_below-requires-clause-rises
list_ends_below-requires-clause-rises c =
    let less = c.loop-low-test.true in let within = c.loop-low.invariant.within in
    block-rises c.args.blocks.now _ c.index-blocks-middle.result _ (omega (arith, less, within))
    c.index-blocks-middle.is c.as_slice.ensures.value c.requires.rises

pub list_ends_below-requires-clause-some : goal.list_ends_below-requires-clause-some
list_ends_below-requires-clause-some c =
    let less = c.loop-low-test.true in let within = c.loop-low.invariant.within in
    block-some c.args.blocks.now _ c.index-blocks-middle.result _ (omega (arith, less, within))
    c.index-blocks-middle.is c.as_slice.ensures.value c.requires.filled

pub loop-low-preserved-then-list_ends_below : goal.loop-low-preserved-then-list_ends_below
loop-low-preserved-then-list_ends_below c =
    let less = c.loop-low-test.true in let within = c.loop-low.invariant.within in record {
      within = within;
      behind = block-behind c.args.number c.args.blocks.now _ c.index-blocks-middle.result _ c.list_ends_below.result
          c.requires.rises c.requires.filled (omega (arith, less, within)) c.index-blocks-middle.is
          c.as_slice.ensures.value c.list_ends_below.ensures c.if-list_ends_below.true;
      before = c.loop-low.invariant.before;
    }

pub loop-low-preserved : goal.loop-low-preserved
loop-low-preserved c =
    let less = c.loop-low-test.true in let within = c.loop-low.invariant.within in record {
      within = omega (arith, less, within);
      behind = c.loop-low.invariant.behind;
      before = block-ahead c.args.number c.args.blocks.now _ c.index-blocks-middle.result _ c.list_ends_below.result
          (omega (arith, less, within)) c.index-blocks-middle.is c.as_slice.ensures.value c.list_ends_below.ensures
          c.if-list_ends_below.false;
    }
