use Rattle.std.proofs.Common.{◌≡◌, ◌+◌, ◌*◌}
use Rattle.mailboxes.specs.BoxMoves.{FindsNone}
use Rattle.mailboxes.specs.Places.{incoming}
use Rattle.mailboxes.proofs.taking.find_full_in_links.Given as goal

-- all slots so far were found empty, and the slot is the first one of the next link
abbrev pub invariant-loop-n : goal.invariant-loop-n
invariant-loop-n l =
    let z = l.machine.set_up in
    (l.seat.table_id ≡ l.initial.seat.table_id) × (l.seat.id ≡ l.initial.seat.id)
    × FindsNone z l.number l.place (4 * l.n) l.initial.seat.me l.seat.me
    × (l.at ≡ incoming z.config.cores z.config.banks l.number (l.place + 4 * l.n))
