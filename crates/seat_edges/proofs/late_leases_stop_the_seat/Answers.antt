use Rattle.seat_edges.proofs.StoppedSeats.{readers, recalls, returns_late}
use Rattle.seat_edges.proofs.late_leases_stop_the_seat.Goals as goal

pub returns-clause-readers : goal.returns-clause-readers
returns-clause-readers c = readers

pub returns-clause-recalls : goal.returns-clause-recalls
returns-clause-recalls c = recalls

pub returns-clause-returns : goal.returns-clause-returns
returns-clause-returns c = returns_late
