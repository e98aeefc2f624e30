use Rattle.line_arena.proofs.ListLaws.{looked_up}
use Rattle.line_arena.proofs.laws.looked_up.Goals as goal

pub returns : goal.returns
returns g c = looked_up g.row.T.Denot
