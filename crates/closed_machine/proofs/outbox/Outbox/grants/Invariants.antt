use Rattle.std.proofs.Common.{◌≡◌, ◌≤◌, drop, take}
use Rattle.line_arena.specs.CellLists.{first_cell}
use Rattle.machine_theorem.specs.Bags.{weigh}
use Rattle.machine_theorem.specs.Ownership.{ownership_in}
use Rattle.inbox.specs.Queues.{values_of}
use Rattle.closed_machine.proofs.outbox.Outbox.grants.Given as goal

-- the grants and returns among the messages so far are counted
abbrev pub invariant-loop : goal.invariant-loop
invariant-loop l =
    (l.count ≤ l.counter) × (l.count ≡ weigh (ownership_in l.fn.line) (take l.counter (values_of l.self-inside.queue)))
    × (l.next ≡ first_cell (drop l.counter l.self-inside.queue))
