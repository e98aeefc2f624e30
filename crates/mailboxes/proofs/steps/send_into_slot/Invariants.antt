use Rattle.seat_views.specs.Seated.{with_hold}
use Rattle.seat_rule.specs.Plays.{put_hold}
use Rattle.mailboxes.proofs.steps.send_into_slot.Given as goal

abbrev pub ghosts-send_into_slot_as : goal.ghosts-send_into_slot_as
ghosts-send_into_slot_as a =
    record {
      set_up = a.table.now.key;
      to = with_hold a.seat.now.me.0 (put_hold a.seat.now.me.0.mine a.slot a.message a.index);
    }
