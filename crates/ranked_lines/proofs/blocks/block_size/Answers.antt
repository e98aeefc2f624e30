use Rattle.std.proofs.Common.{sym, ◌∙◌}
use Rattle.ranked_lines.proofs.BlockedLists.{sized}
use Rattle.ranked_lines.proofs.blocks.block_size.Goals as goal

pub returns-clause-count : goal.returns-clause-count
returns-clause-count c =
    c.len.ensures.value
    ∙ sym (sized c.args.at c.args.blocks.now c.index-blocks-at.result c.requires c.index-blocks-at.is)
