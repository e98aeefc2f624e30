use Rattle.seat_rule.proofs.SeatMoves.{changes}
use Rattle.seat_rule.proofs.parts.moves_of_seats_are_changes.Goals as goal

pub returns : goal.returns
returns c = λ z n id a b is_seat move. changes z n id a b is_seat move
