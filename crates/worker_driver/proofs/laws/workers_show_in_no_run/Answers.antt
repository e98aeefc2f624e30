use Rattle.std.proofs.Common.{ap, ◌∙◌}
use Rattle.worker_driver.specs.Runs.{state_at}
use Rattle.worker_driver.proofs.SameBatches.{same_at, same_lists}
use Rattle.worker_driver.proofs.laws.workers_show_in_no_run.Goals as goal

pub returns-clause-runs : goal.returns-clause-runs
returns-clause-runs c = λ test config first limit runs others.
    same_at c.one_seed_gives_one_list.ensures test config first limit 0 runs others

pub returns-clause-lists : goal.returns-clause-lists
returns-clause-lists c = λ test config first limit runs others.
    same_lists c.one_seed_gives_one_list.ensures test config first limit 0 runs others

pub returns-clause-refused : goal.returns-clause-refused
returns-clause-refused c = λ test config policy limit run is ended.
    is.told.state ∙ ap (λ e. state_at test e is.threads is.machine) ended
