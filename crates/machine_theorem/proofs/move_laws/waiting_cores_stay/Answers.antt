use Rattle.machine_theorem.proofs.StayingParts.{core_stays, core_starts}
use Rattle.machine_theorem.proofs.move_laws.waiting_cores_stay.Goals as goal

pub returns : goal.returns
returns c = record { stays = core_stays; started = core_starts }
