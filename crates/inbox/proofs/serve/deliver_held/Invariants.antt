use Rattle.std.proofs.Common.{◌≡◌, ◌||◌, drop}
use Rattle.line_arena.specs.CellLists.{first_cell}
use Rattle.inbox.specs.Queues.{values_of}
use Rattle.inbox.specs.Serving.{held_from, served_of, is_refused}
use Rattle.inbox.proofs.serve.deliver_held.Given as goal

abbrev pub invariant-loop : goal.invariant-loop
invariant-loop g l =
    let held = values_of l.held in
    let table = g.P.Receiver.table in
    let p = l.initial.part in
    let left = held_from l.counter (values_of (drop l.counter l.held)) in
    (l.next ≡ first_cell (drop l.counter l.held)) × (l.part ≡ p)
    × (served_of table held p (held_from 0 held) ≡ served_of table held p left)
    × ((l.refused || is_refused table held p left) ≡ is_refused table held p (held_from 0 held))
