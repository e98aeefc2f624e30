use Rattle.std.proofs.Common.{◌≡◌, ◌++◌, [], drop, get_or}
use Rattle.line_arena.specs.CellLists.{first_cell}
use Rattle.line_sets.specs.Order.{lines_passing}
use Rattle.line_sets.specs.Stored.{entries_of}
use Rattle.line_sets.proofs.sets.LineSets.push_listed_lines_of_set.Given as goal

abbrev pub invariant-loop : goal.invariant-loop
invariant-loop g l =
    let cells = get_or l.self-inside.arena.lists l.set [] in
    (l.next ≡ first_cell (drop l.counter cells))
    × (l.lines.items ++ lines_passing g.V.Listed.is_listed (entries_of (drop l.counter cells))
    ≡ l.initial.lines.items ++ lines_passing g.V.Listed.is_listed (entries_of cells))
