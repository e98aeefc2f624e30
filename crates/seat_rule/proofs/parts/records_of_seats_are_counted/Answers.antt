use Rattle.seat_rule.proofs.Seats.{issued_so, counts_issued}
use Rattle.seat_rule.proofs.parts.records_of_seats_are_counted.Goals as goal

pub returns-clause-issued : goal.returns-clause-issued
returns-clause-issued c = λ z n id a good stands. issued_so c.laws_of_states.ensures z good n id a stands

pub returns-clause-count : goal.returns-clause-count
returns-clause-count c = λ z n id a good stands. counts_issued c.laws_of_states.ensures z good n id a stands
