use Rattle.seat_rule.specs.Rule.{no_hold}
use Rattle.seat_views.specs.Seated.{first_view}
use Rattle.mailboxes.proofs.steps.make_seat.Given as goal

abbrev pub ghosts-make_seat_as : goal.ghosts-make_seat_as
ghosts-make_seat_as a = record { set_up = a.table.now.key; to = first_view no_hold }
