use Rattle.line_arena.proofs.ListLaws.{taken_off}
use Rattle.line_arena.proofs.laws.taken_off.Goals as goal

pub returns : goal.returns
returns g c = taken_off g.row.T.Denot
