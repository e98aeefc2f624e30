use Rattle.seat_views.proofs.Seatings.{shown_split}
use Rattle.seat_views.proofs.laws.made_seats_are_shown.Goals as goal

pub returns : goal.returns
returns g c = λ blank n views seats id v. shown_split _ blank n views seats id v
