use Rattle.std.proofs.Common.{refl}
use Rattle.tardis.proofs.jobs.open_file_if_named.Goals as goal

pub returns-in-Some : goal.returns-in-Some
returns-in-Some g c = rw c.in-Some.is (c.open.result, c.open.ensures, refl)
