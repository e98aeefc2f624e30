use Rattle.std.proofs.Common.{arith}
use Rattle.ranked_lines.proofs.BlockedLists.{full-length, split-apart, split-fills, split-room, split-same}
use Rattle.ranked_lines.proofs.blocks.split_full_block.Goals as goal

pub slice_bounds-block_from_numbers-count : goal.slice_bounds-block_from_numbers-count
slice_bounds-block_from_numbers-count c =
    let long = full-length c.args.at c.args.blocks.now.items c.index.result.now c.as_slice.result.now c.requires.inside
    c.requires.full c.index.ensures c.as_slice.ensures.value in omega (arith, long)

pub slice_bounds-block_from_numbers-start : goal.slice_bounds-block_from_numbers-start
slice_bounds-block_from_numbers-start c =
    let long = full-length c.args.at c.args.blocks.now.items c.index.result.now c.as_slice.result.now c.requires.inside
    c.requires.full c.index.ensures c.as_slice.ensures.value in omega (arith, long)

pub returns-clause-same : goal.returns-clause-same
returns-clause-same c =
    split-same 64 c.args.at c.args.blocks.now.items c.put_block.new.blocks.items c.index.result.now
    c.index_mut.result.now c.block_from_numbers-upper.result c.truncate.new.self c.as_slice.result.now c.requires.inside
    c.index.ensures c.as_slice.ensures.value c.block_from_numbers-upper.ensures
    c.put_block.ensures.items c.index_mut.ensures.value c.truncate.ensures.items

pub returns-clause-filled : goal.returns-clause-filled
returns-clause-filled c =
    let long = full-length c.args.at c.args.blocks.now.items c.index.result.now c.as_slice.result.now c.requires.inside
    c.requires.full c.index.ensures c.as_slice.ensures.value in
    split-fills 64 c.args.at c.args.blocks.now.items c.put_block.new.blocks.items c.index.result.now
    c.index_mut.result.now c.block_from_numbers-upper.result c.truncate.new.self c.as_slice.result.now c.requires.inside
    c.index.ensures c.as_slice.ensures.value c.block_from_numbers-upper.ensures
    c.put_block.ensures.items c.index_mut.ensures.value c.truncate.ensures.items (omega arith) (omega (arith, long))

pub returns-clause-dense : goal.returns-clause-dense
returns-clause-dense c =
    let long = full-length c.args.at c.args.blocks.now.items c.index.result.now c.as_slice.result.now c.requires.inside
    c.requires.full c.index.ensures c.as_slice.ensures.value in
    split-apart 64 c.args.at c.args.blocks.now.items c.put_block.new.blocks.items c.index.result.now
    c.index_mut.result.now c.block_from_numbers-upper.result c.truncate.new.self c.as_slice.result.now c.requires.inside
    c.index.ensures c.as_slice.ensures.value c.block_from_numbers-upper.ensures
    c.put_block.ensures.items c.index_mut.ensures.value c.truncate.ensures.items (omega arith) (omega (arith, long))

pub returns-clause-halves : goal.returns-clause-halves
returns-clause-halves c =
    let long = full-length c.args.at c.args.blocks.now.items c.index.result.now c.as_slice.result.now c.requires.inside
    c.requires.full c.index.ensures c.as_slice.ensures.value in
    split-room 64 c.args.at c.args.blocks.now.items c.put_block.new.blocks.items c.index.result.now
    c.index_mut.result.now c.block_from_numbers-upper.result c.truncate.new.self c.as_slice.result.now c.requires.inside
    c.index.ensures c.as_slice.ensures.value c.block_from_numbers-upper.ensures
    c.put_block.ensures.items c.index_mut.ensures.value c.truncate.ensures.items (omega arith) (omega arith)
    (omega (arith, long)) (omega (arith, long))
