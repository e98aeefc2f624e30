use Rattle.std.proofs.Common.{◌<◌, sym, subst}
use Rattle.seat_rule.specs.declared.views.SetUp.{SetUp}
use Rattle.seat_rule.specs.Rule.{seat_count}
use Rattle.mailboxes.proofs.changes.change_hold.Goals as goal

pub store_hold-requires-clause-change : goal.store_hold-requires-clause-change
store_hold-requires-clause-change g c =
    let v = c.args.seat.now.me.0 in
    let z : SetUp = g.C.StepChoice.set_up in
    let t = c.requires.change in (
      t.0,
      t.1,
      t.2,
      c.moves_of_seats_are_changes.ensures z (seat_count z) v.number v.mine t.0
          (subst (λ (y : SetUp). v.number < seat_count y) (sym c.requires.choice) c.requires.seat.2) t.3,
    )
