use Rattle.std.proofs.Common.{ap, ◌∙◌, sym}
use Rattle.std.specs.List.{slice_get}
use Rattle.ranked_lines.specs.Rising.{sorted}
use Rattle.ranked_lines.proofs.SortedLists.{sorted-at}
use Rattle.ranked_lines.proofs.selection.nth_smallest_number.Goals as goal

pub returns : goal.returns
returns c =
    ap (slice_get (sorted c.args.numbers.now)) (sym c.select_nth_unstable-less.ensures.front_len)
    ∙ sorted-at c.args.numbers.now _ _ _ c.select_nth_unstable-less.ensures.permutation
    c.select_nth_unstable-less.ensures.partitioned
