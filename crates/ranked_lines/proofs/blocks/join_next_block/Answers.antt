use Rattle.std.proofs.Common.{◌+◌, arith}
use Rattle.ranked_lines.proofs.BlockNeighbours.{dense-but-past, last-next, stay-before, stay-next}
use Rattle.ranked_lines.proofs.BlockedLists.{pair-closes, pair-filled, pair-fits, pair-opens, pair-same}
use Rattle.ranked_lines.proofs.blocks.join_next_block.Goals as goal

pub append_to_block-requires : goal.append_to_block-requires
append_to_block-requires c =
    let few = c.if-here-next-gt64.false in let here = rw c.deref.ensures.value at c.block_size-here.ensures.count in
    let next = rw c.deref-2.ensures.value at c.block_size-next.ensures.count in
    pair-fits c.args.blocks.now.items c.remove-upper.new.self.items c.args.at c.remove-upper.result
    c.index_mut.result.now c.index_mut.result.now c.as_slice.result.now (omega arith) c.remove-upper.ensures.value
    c.remove-upper.ensures.items c.index_mut.ensures.value c.as_slice.ensures.value (omega (arith, few, here, next))

pub returns-clause-same : goal.returns-clause-same
returns-clause-same c =
    pair-same c.args.blocks.now.items c.remove-upper.new.self.items c.args.at c.remove-upper.result
    c.index_mut.result.now c.append_to_block.new.block c.as_slice.result.now (omega arith) c.remove-upper.ensures.value
    c.remove-upper.ensures.items c.index_mut.ensures.value c.as_slice.ensures.value c.append_to_block.ensures

pub returns-clause-filled : goal.returns-clause-filled
returns-clause-filled c = λ h.
    pair-filled c.args.blocks.now.items c.remove-upper.new.self.items c.args.at c.remove-upper.result
    c.index_mut.result.now c.append_to_block.new.block c.as_slice.result.now (omega arith) c.remove-upper.ensures.value
    c.remove-upper.ensures.items c.index_mut.ensures.value c.as_slice.ensures.value c.append_to_block.ensures h

pub returns-then-at-len-clause-next : goal.returns-then-at-len-clause-next
returns-then-at-len-clause-next c = λ h. let le = c.if-at-len.true in
    last-next 65 c.args.blocks.now.items c.args.at (omega (arith, le)) h

pub returns-then-at-len-clause-before : goal.returns-then-at-len-clause-before
returns-then-at-len-clause-before c = λ h. let le = c.if-at-len.true in
    dense-but-past 1 0 65 c.args.blocks.now.items (c.args.at + 1) (omega (arith, le)) h

pub returns-then-here-next-gt64-clause-next : goal.returns-then-here-next-gt64-clause-next
returns-then-here-next-gt64-clause-next c = λ h.
    let more = c.if-here-next-gt64.true in let here = rw c.deref.ensures.value at c.block_size-here.ensures.count in
    let next = rw c.deref-2.ensures.value at c.block_size-next.ensures.count in
    stay-next c.args.blocks.now.items c.args.at (omega (arith, more, here, next)) h

pub returns-then-here-next-gt64-clause-before : goal.returns-then-here-next-gt64-clause-before
returns-then-here-next-gt64-clause-before c = λ h.
    let more = c.if-here-next-gt64.true in let here = rw c.deref.ensures.value at c.block_size-here.ensures.count in
    let next = rw c.deref-2.ensures.value at c.block_size-next.ensures.count in
    stay-before c.args.blocks.now.items c.args.at (omega arith) (omega (arith, more, here, next)) h

pub returns-clause-next : goal.returns-clause-next
returns-clause-next c = λ h.
    pair-opens c.args.blocks.now.items c.remove-upper.new.self.items c.args.at c.remove-upper.result
    c.index_mut.result.now c.append_to_block.new.block c.as_slice.result.now (omega arith) c.remove-upper.ensures.value
    c.remove-upper.ensures.items c.index_mut.ensures.value c.as_slice.ensures.value c.append_to_block.ensures h

pub returns-clause-before : goal.returns-clause-before
returns-clause-before c = λ h.
    pair-closes c.args.blocks.now.items c.remove-upper.new.self.items c.args.at c.remove-upper.result
    c.index_mut.result.now c.append_to_block.new.block c.as_slice.result.now (omega arith) c.remove-upper.ensures.value
    c.remove-upper.ensures.items c.index_mut.ensures.value c.as_slice.ensures.value c.append_to_block.ensures h
