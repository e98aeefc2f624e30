use Rattle.std.proofs.Common.{inl, inr, refl}
use Rattle.tardis.proofs.jobs.check_over_opening.Goals as goal

pub returns-in-Ok : goal.returns-in-Ok
returns-in-Ok g c = (
  c.opening_of.new.source,
  inl (c.in-Ok.memory, c.in-Ok.ensures.read, c.in-Ok.ensures.none_failed, c.check_over_memory.ensures),
)

pub returns-in-Err : goal.returns-in-Err
returns-in-Err g c = (c.opening_of.new.source, inr (c.in-Err.error, c.in-Err.ensures.refused, refl, refl))
