use Rattle.seat_edges.proofs.CursorMoves.{begins, moves_on}
use Rattle.seat_edges.proofs.takes_move_on.Goals as goal

pub returns-clause-next : goal.returns-clause-next
returns-clause-next c = moves_on

pub returns-clause-begins : goal.returns-clause-begins
returns-clause-begins c = begins
