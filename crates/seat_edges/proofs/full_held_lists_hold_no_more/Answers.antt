use Rattle.seat_edges.proofs.FullLists.{full_banks, full_cores}
use Rattle.seat_edges.proofs.full_held_lists_hold_no_more.Goals as goal

pub returns-clause-cores : goal.returns-clause-cores
returns-clause-cores c = full_cores

pub returns-clause-banks : goal.returns-clause-banks
returns-clause-banks c = full_banks
