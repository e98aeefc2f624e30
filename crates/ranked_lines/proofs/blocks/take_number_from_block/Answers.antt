use Rattle.std.proofs.Common.{arith, refl, sym, ap, ◌∙◌}
use Rattle.ranked_lines.specs.Blocked.{joined}
use Rattle.ranked_lines.proofs.BlockedLists.{block-rises, filled-remove, took, took-filled, took-dense-but, went}
use Rattle.ranked_lines.proofs.BlockedLists.{went-dense-but}
use Rattle.ranked_lines.proofs.blocks.take_number_from_block.Goals as goal

pub returns-then-block_size-le1-clause-taken : goal.returns-then-block_size-le1-clause-taken
returns-then-block_size-le1-clause-taken c =
    let few = c.if-block_size-le1.true in let count = rw c.deref.ensures.value at c.block_size.ensures.count in
    ap joined c.remove-block.ensures.items
    ∙ went c.args.number c.args.blocks.now.items c.args.at c.requires.inside c.requires.first
    (omega (arith, few, count))

pub returns-then-block_size-le1-clause-filled : goal.returns-then-block_size-le1-clause-filled
returns-then-block_size-le1-clause-filled c =
    rw (sym c.remove-block.ensures.items) at (filled-remove c.args.blocks.now.items c.args.at c.requires.filled)

pub take_out_of_rising_list-requires : goal.take_out_of_rising_list-requires
take_out_of_rising_list-requires c = block-rises c.args.blocks.now.items c.args.at c.index_mut.result.now _
    c.requires.inside c.index_mut.ensures.value refl c.requires.rises

pub returns-clause-taken : goal.returns-clause-taken
returns-clause-taken c = took c.args.number c.args.blocks.now.items c.args.at c.index_mut.result.now
    c.take_out_of_rising_list.new.numbers c.requires.inside c.requires.first c.index_mut.ensures.value
    c.take_out_of_rising_list.ensures

pub returns-clause-filled : goal.returns-clause-filled
returns-clause-filled c =
    let more = c.if-block_size-le1.false in let count = rw c.deref.ensures.value at c.block_size.ensures.count in
    took-filled c.args.number c.args.blocks.now.items c.args.at c.index_mut.result.now
    c.take_out_of_rising_list.new.numbers
    c.requires.filled c.requires.inside c.index_mut.ensures.value (omega (arith, more, count))
    c.take_out_of_rising_list.ensures

pub returns-then-block_size-le1-clause-dense : goal.returns-then-block_size-le1-clause-dense
returns-then-block_size-le1-clause-dense c = λ h.
    let few = c.if-block_size-le1.true in let count = rw c.deref.ensures.value at c.block_size.ensures.count in
    rw (sym c.remove-block.ensures.items)
    at (went-dense-but c.args.blocks.now.items c.args.at (omega (arith, few, count)) h)

pub returns-clause-dense : goal.returns-clause-dense
returns-clause-dense c = took-dense-but c.args.number c.args.blocks.now.items c.args.at c.index_mut.result.now
    c.take_out_of_rising_list.new.numbers c.requires.inside c.index_mut.ensures.value c.take_out_of_rising_list.ensures
