use Rattle.seat_views.proofs.Seatings.{shown_join}
use Rattle.seat_views.proofs.laws.joined_seats_are_shown.Goals as goal

pub returns : goal.returns
returns g c = λ blank gone n views seats id v other u. shown_join _ blank gone n views seats id v other u
