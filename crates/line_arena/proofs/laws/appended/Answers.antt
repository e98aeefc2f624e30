use Rattle.line_arena.proofs.ListLaws.{appended}
use Rattle.line_arena.proofs.laws.appended.Goals as goal

pub returns : goal.returns
returns g c = appended g.row.T.Denot
