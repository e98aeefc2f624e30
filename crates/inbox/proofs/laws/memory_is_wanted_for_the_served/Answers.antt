use Rattle.inbox.proofs.Effects.{memory}
use Rattle.inbox.proofs.laws.memory_is_wanted_for_the_served.Goals as goal

pub returns : goal.returns
returns g c = memory g.row.T.Denot g.row.P.Denot
