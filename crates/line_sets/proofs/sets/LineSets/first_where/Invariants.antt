use Rattle.std.proofs.Common.{◌≡◌, [], drop, get_or}
use Rattle.line_arena.specs.CellLists.{first_cell}
use Rattle.line_sets.specs.Order.{first_where}
use Rattle.line_sets.specs.Stored.{entries_of}
use Rattle.line_sets.proofs.sets.LineSets.first_where.Given as goal

abbrev pub invariant-loop : goal.invariant-loop
invariant-loop g l =
    let cells = get_or l.self-inside.arena.lists l.set [] in
    let passes = g.T.LineTest.passes l.test in
    (l.next ≡ first_cell (drop l.counter cells))
    × (first_where passes (entries_of cells) ≡ first_where passes (entries_of (drop l.counter cells)))
