use Rattle.timestamp_manager.proofs.Given.{reaches, reaches-shortest}
use Rattle.timestamp_manager.proofs.laws.returned_leases_reach.Goals as goal

pub returns-clause-reaches : goal.returns-clause-reaches
returns-clause-reaches c = λ wts rts until lease given h. reaches _ wts rts until lease given h

pub returns-clause-shortest : goal.returns-clause-shortest
returns-clause-shortest c = λ wts rts until lease given h. reaches-shortest _ wts rts until lease given h
