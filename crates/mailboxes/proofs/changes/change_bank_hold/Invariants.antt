use Rattle.seat_views.specs.Seated.{with_hold}
use Rattle.mailboxes.specs.Stored.{stored_bank}
use Rattle.mailboxes.proofs.changes.change_bank_hold.Given as goal

abbrev pub ghosts-change_hold : goal.ghosts-change_hold
ghosts-change_hold a =
    record {
      set_up = a.machine.now.set_up;
      to = with_hold a.seat.now.me.0 (stored_bank a.seat.now.me.0.mine a.part.now a.inbox.now);
    }
