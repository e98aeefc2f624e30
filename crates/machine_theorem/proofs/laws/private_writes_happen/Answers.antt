use Rattle.std.proofs.Common.{refl}
use Rattle.machine_theorem.proofs.PrivateRun.{private_run}
use Rattle.machine_theorem.proofs.laws.private_writes_happen.Goals as goal

pub returns-clause-good : goal.returns-clause-good
returns-clause-good c = refl

pub returns-clause-records : goal.returns-clause-records
returns-clause-records c = λ opening. private_run opening
