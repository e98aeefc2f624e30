use Rattle.tardis.proofs.jobs.check_over_optional_opening.Goals as goal

pub returns-in-None : goal.returns-in-None
returns-in-None g c = rw (c.in-None.is, ← c.new-zeros.ensures) c.check_over_memory.ensures
