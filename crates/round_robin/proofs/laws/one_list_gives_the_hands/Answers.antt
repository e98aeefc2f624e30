use Rattle.round_robin.proofs.Deals.{same_list}
use Rattle.round_robin.proofs.laws.one_list_gives_the_hands.Goals as goal

pub returns : goal.returns
returns g c = λ all others first n lists. same_list all others first n lists
