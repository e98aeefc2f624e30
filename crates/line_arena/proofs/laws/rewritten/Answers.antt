use Rattle.line_arena.proofs.ListLaws.{written}
use Rattle.line_arena.proofs.laws.rewritten.Goals as goal

pub returns : goal.returns
returns g c = written g.row.T.Denot
