use Rattle.std.specs.Prelude.{◌≡◌, length, take, drop}
use Rattle.line_arena.specs.CellLists.{first_cell}
use Rattle.inbox.specs.Queues.{values_of}
use Rattle.mailboxes.specs.Places.{links_of}
use Rattle.mailboxes.proofs.FullEnds.{Marks}
use Rattle.mailboxes.proofs.Sweeps.{SweptTo}
use Rattle.mailboxes.proofs.mailbox.Mailbox.put.Given as goal

-- the slots of the links of all messages so far were found full, and the marks tell which links these are
abbrev pub invariant-loop-index : goal.invariant-loop-index
invariant-loop-index l =
    let p = l.initial.self in (
    SweptTo l.machine p l.initial.outbox l.index l.self l.outbox
    × (l.next ≡ first_cell (drop l.index l.initial.outbox)) × (length l.full ≡ 64)
    × Marks p.cores p.banks p.number l.full
    (links_of p.cores p.banks p.number (take l.index (values_of l.initial.outbox)))
    )
