use Rattle.std.proofs.Common.{◌≡◌, drop}
use Rattle.std.specs.List.{find}
use Rattle.line_arena.specs.CellLists.{first_cell}
use Rattle.inbox.specs.Queues.{values_of}
use Rattle.inbox.proofs.inbox.Inbox.first_held.Given as goal

abbrev pub invariant-loop : goal.invariant-loop
invariant-loop g l =
    let cells = l.self-inside.held in let passes = g.P.MessageTest.passes l.test in
    (l.next ≡ first_cell (drop l.counter cells))
    × (find passes (values_of cells) ≡ find passes (values_of (drop l.counter cells)))
