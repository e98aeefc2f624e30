use Rattle.ranked_lines.proofs.SortedLists.{permuted-sorted, rises-sorted}
use Rattle.ranked_lines.proofs.laws.sorted_rises.Goals as goal

pub returns-clause-same : goal.returns-clause-same
returns-clause-same c = permuted-sorted

pub returns-clause-rises : goal.returns-clause-rises
returns-clause-rises c = rises-sorted
