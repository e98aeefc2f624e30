use Rattle.seat_edges.proofs.PutTurns.{banks_put, cores_put}
use Rattle.seat_edges.proofs.turns_put_first.Goals as goal

pub returns-clause-cores : goal.returns-clause-cores
returns-clause-cores c = cores_put

pub returns-clause-banks : goal.returns-clause-banks
returns-clause-banks c = banks_put
