use Rattle.std.proofs.Common.{arith}
use Rattle.std.proofs.lemmas.Bool.{lt-ltb}
use Rattle.ranked_lines.proofs.BlockNeighbours.{few-blocks}
use Rattle.ranked_lines.proofs.blocks.has_room_for_block.Goals as goal

pub returns-clause-sure : goal.returns-clause-sure
returns-clause-sure c = λ room.
    let few = few-blocks 65 c.args.blocks.now.items c.requires in
    let count = c.len.ensures in let all = c.capacity.ensures in let long = c.args.blocks.now.ok in
    lt-ltb c.len.result c.capacity.result (omega (arith, few, room, count, all, long))
