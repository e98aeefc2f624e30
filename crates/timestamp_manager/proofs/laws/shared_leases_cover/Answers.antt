use Rattle.timestamp_manager.proofs.Given.{covers, covers-shortest, never}
use Rattle.timestamp_manager.proofs.laws.shared_leases_cover.Goals as goal

pub returns-clause-covers : goal.returns-clause-covers
returns-clause-covers c = λ wts rts pts lease version given h. covers _ _ wts rts pts lease given h

pub returns-clause-absent : goal.returns-clause-absent
returns-clause-absent c = λ wts rts pts lease given h. never _ _ given h

pub returns-clause-shortest : goal.returns-clause-shortest
returns-clause-shortest c = λ wts rts pts lease version given h. covers-shortest _ _ wts rts pts lease given h
