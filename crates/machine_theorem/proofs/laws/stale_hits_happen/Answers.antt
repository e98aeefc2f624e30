use Rattle.machine_theorem.proofs.laws.stale_hits_happen.Goals as goal
use Rattle.machine_theorem.proofs.StaleRun.{stale_run, two_cores_good}

pub returns-clause-good : goal.returns-clause-good
returns-clause-good c = two_cores_good

pub returns-clause-records : goal.returns-clause-records
returns-clause-records c = λ opening. stale_run opening
