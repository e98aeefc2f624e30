use Rattle.std.proofs.Common.{◌≡◌, drop}
use Rattle.line_arena.specs.CellLists.{first_cell}
use Rattle.inbox.proofs.inbox.Inbox.held.Given as goal

abbrev pub invariant-loop : goal.invariant-loop
invariant-loop g l = l.next ≡ first_cell (drop l.counter l.self-inside.held)
