use Rattle.seat_rule.proofs.Seats.{core_shape, bank_shape}
use Rattle.seat_rule.proofs.parts.parts_of_seats_have_their_shape.Goals as goal

pub returns-clause-core : goal.returns-clause-core
returns-clause-core c = λ z n id a good stands. core_shape c.laws_of_states.ensures z good n id a stands

pub returns-clause-bank : goal.returns-clause-bank
returns-clause-bank c = λ z n id a good stands. bank_shape c.laws_of_states.ensures z good n id a stands
