use Rattle.seat_edges.proofs.EmptyHands.{empty_banks, empty_cores}
use Rattle.seat_edges.proofs.FullHands.{full_banks, full_cores}
use Rattle.seat_edges.proofs.turns_take_into_empty_hands.Goals as goal

pub returns-clause-full_cores : goal.returns-clause-full_cores
returns-clause-full_cores c = full_cores

pub returns-clause-full_banks : goal.returns-clause-full_banks
returns-clause-full_banks c = full_banks

pub returns-clause-cores : goal.returns-clause-cores
returns-clause-cores c = empty_cores c.all_incoming_slots_are_looked_at.ensures

pub returns-clause-banks : goal.returns-clause-banks
returns-clause-banks c = empty_banks c.all_incoming_slots_are_looked_at.ensures
