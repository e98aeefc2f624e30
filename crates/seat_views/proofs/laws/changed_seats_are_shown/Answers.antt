use Rattle.seat_views.proofs.Seatings.{shown_set}
use Rattle.seat_views.proofs.laws.changed_seats_are_shown.Goals as goal

pub returns : goal.returns
returns g c = λ blank n views seats id v h. shown_set _ blank n views seats id v h
