use Rattle.std.proofs.Common.{◌≡◌, ◌+◌, ◌-◌, arith, sym}
use Rattle.ranked_lines.proofs.BlockNeighbours.{dense-but-first, dense-but-past}
use Rattle.ranked_lines.proofs.blocks.join_short_neighbours.Goals as goal

pub returns-then-at-len-clause-dense : goal.returns-then-at-len-clause-dense
returns-then-at-len-clause-dense c = λ h. let le = c.if-at-len.true in
    dense-but-past 1 1 65 c.args.blocks.now.items c.args.at (omega (arith, le)) h

pub returns-then-at-eq0-clause-dense : goal.returns-then-at-eq0-clause-dense
returns-then-at-eq0-clause-dense c = λ h.
    dense-but-first c.join_next_block.new.blocks.items (rw c.if-at-eq0.true at (c.join_next_block.ensures.next h))

pub returns-clause-dense : goal.returns-clause-dense
returns-clause-dense c = λ h.
    let more = c.if-at-eq0.false in
    let same : c.args.at - 1 + 1 ≡ c.args.at = omega (arith, more) in
    c.join_next_block-2.ensures.before (rw (sym same) at (c.join_next_block.ensures.next h))
