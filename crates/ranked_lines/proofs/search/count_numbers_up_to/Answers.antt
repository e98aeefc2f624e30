use Rattle.std.proofs.Common.{leb, rules, ◌∙◌}
use Rattle.std.proofs.lemmas.List.Sorted.{IsPartitionPoint-from_clause, IsPartitionedBy-leb}
use Rattle.ranked_lines.proofs.RisingEdits.{less-next, ordered, searched-to}
use Rattle.ranked_lines.proofs.search.count_numbers_up_to.Goals as goal

pub returns-then-number-clause-count : goal.returns-then-number-clause-count
returns-then-number-clause-count c =
    let parted = IsPartitionedBy-leb (λ y. y) _ c.args.number (ordered c.args.numbers.now c.requires.rises) in
    searched-to (λ y. leb y c.args.number) c.args.numbers.now c.partition_point.result c.partition_point.ensures.bound
    (IsPartitionPoint-from_clause (λ y. leb y c.args.number) _ _ c.partition_point.ensures.partitioned parted
    (λ a r q k. search rules))

pub returns-clause-count : goal.returns-clause-count
returns-clause-count c = c.count_numbers_below.ensures.count ∙ less-next c.args.number c.args.numbers.now
