use Rattle.play_seats.proofs.machines.open_seats.Goals as goal

pub returns-in-Ok-clause-cores : goal.returns-in-Ok-clause-cores
returns-in-Ok-clause-cores c = λ i p e. (c.in-Ok.ensures.cores.1 i p e).0

pub returns-in-Ok-clause-banks : goal.returns-in-Ok-clause-banks
returns-in-Ok-clause-banks c = λ i p e. (c.in-Ok.ensures.banks.1 i p e).0
