use Rattle.ranked_lines.proofs.BlockedLists.{ends-below}
use Rattle.ranked_lines.proofs.rising_list.list_ends_below.Goals as goal

pub returns : goal.returns
returns c = ends-below c.args.number c.args.numbers.now c.requires.rises c.requires.some
