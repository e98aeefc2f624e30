use Rattle.ranked_lines.proofs.SortedLists.{sorted-unique}
use Rattle.ranked_lines.proofs.laws.sorted_is_unique.Goals as goal

pub returns : goal.returns
returns c = sorted-unique
