use Rattle.std.proofs.Common.{◌≡◌}
use Rattle.mailboxes.specs.BoxMoves.{FindsNone}
use Rattle.mailboxes.proofs.taking.find_full_in_link.Given as goal

-- all slots so far were found empty
abbrev pub invariant-loop-k : goal.invariant-loop-k
invariant-loop-k l =
    (l.seat.table_id ≡ l.initial.seat.table_id) × (l.seat.id ≡ l.initial.seat.id)
    × FindsNone l.machine.set_up l.number l.place l.k l.initial.seat.me l.seat.me
