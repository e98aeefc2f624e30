use Rattle.inbox.proofs.Effects.{effect}
use Rattle.inbox.proofs.laws.servings_do_one_of_five.Goals as goal

pub returns : goal.returns
returns g c = effect g.row.T.Denot g.row.P.Denot
