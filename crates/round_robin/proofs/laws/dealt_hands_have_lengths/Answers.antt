use Rattle.round_robin.proofs.Deals.{lengths_of, same_lengths}
use Rattle.round_robin.proofs.laws.dealt_hands_have_lengths.Goals as goal

pub returns-clause-dealt : goal.returns-clause-dealt
returns-clause-dealt g c = λ all first n lists. lengths_of all first n lists

pub returns-clause-changed : goal.returns-clause-changed
returns-clause-changed g c = λ items first n before after. same_lengths items first n before after
