use Rattle.seat_rule.proofs.Openings.{opening_stands}
use Rattle.seat_rule.proofs.Frames.{stands_on}
use Rattle.seat_rule.proofs.parts.seats_stand.Goals as goal

pub returns-clause-opened : goal.returns-clause-opened
returns-clause-opened c = λ z n id. opening_stands c.laws_of_states.ensures z n id

pub returns-clause-kept : goal.returns-clause-kept
returns-clause-kept c = λ z n id a b part bag stands. stands_on z n id a b part bag stands
