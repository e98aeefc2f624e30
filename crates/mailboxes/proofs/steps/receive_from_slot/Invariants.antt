use Rattle.seat_views.specs.Seated.{with_hold}
use Rattle.seat_rule.specs.Plays.{take_hold}
use Rattle.mailboxes.proofs.steps.receive_from_slot.Given as goal

abbrev pub ghosts-receive_from_slot_as : goal.ghosts-receive_from_slot_as
ghosts-receive_from_slot_as a =
    record {
      set_up = a.table.now.key;
      to = with_hold a.seat.now.me.0 (take_hold a.seat.now.me.0.mine a.slot a.message);
    }
