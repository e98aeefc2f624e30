use Rattle.std.proofs.Common.{◌≡◌, []}
use Rattle.seat_rule.specs.declared.views.Stage.TheVariants.{Idle}
use Rattle.seat_views.specs.Seated.{with_hold}
use Rattle.seat_rule.specs.Plays.{looking, ones}
use Rattle.mailboxes.proofs.links.find_free_slot.Given as goal

abbrev pub invariant-loop-s : goal.invariant-loop-s
invariant-loop-s l =
    let v = l.initial.seat.me.0 in
    (l.seat.table_id ≡ l.initial.seat.table_id) × (l.seat.id ≡ l.initial.seat.id)
    × (l.seat.me ≡ (with_hold v (looking v.mine (ones l.link l.s) Idle), []))
