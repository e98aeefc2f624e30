use Rattle.seat_edges.proofs.FullTurns.{banks_full, cores_full}
use Rattle.seat_edges.proofs.full_turns_take_nothing.Goals as goal

pub returns-clause-cores : goal.returns-clause-cores
returns-clause-cores c = cores_full c.returns_want_a_place.ensures.full

pub returns-clause-banks : goal.returns-clause-banks
returns-clause-banks c = banks_full c.messages_to_cores_want_places.ensures.grants
