use Rattle.thread_driver.proofs.KeptWork.{turn_stays}
use Rattle.thread_driver.proofs.seat_calls.core_seat_turn.Goals as goal

pub returns-clause-work : goal.returns-clause-work
returns-clause-work c =
    turn_stays c.args.machine.now c.records_of_seats_are_counted.ensures.issued c.turn.result c.args.seat.now
    c.turn.new.self c.requires.seat c.turn.ensures.seat.0 c.turn.ensures.turns
