use Rattle.std.proofs.Common.{◌≡◌, ◌++◌, List, vec_capacity}
use Rattle.mailboxes.specs.Remains.{backwards, entry, knows_all}
use Rattle.mailboxes.proofs.closing.join_seats.Given as goal

-- the seats that are no longer in the list are known, and their parts are there
abbrev pub invariant-loop-port : goal.invariant-loop-port
invariant-loop-port g l =
    (l.seat.table_id ≡ l.initial.seat.table_id) × (l.seat.id ≡ l.initial.seat.id)
    × (vec_capacity l.parts ≡ vec_capacity l.initial.parts)
    × ((done : List g.row.S.Denot) × (l.initial.seats.items ≡ l.seats.items ++ done)
    × (l.seat.me ≡ (
      knows_all l.initial.seat.me.0 (backwards (λ p. entry (g.S.Leaver.mail p)) done),
      l.initial.seat.me.1,
    ))
    × (l.parts.items ≡ l.initial.parts.items ++ backwards g.S.Leaver.part done))

abbrev pub decreases-loop-port : goal.decreases-loop-port
decreases-loop-port g l = goal.left-loop-port g l
