use Rattle.std.proofs.Common.{[]}
use Rattle.thread_driver.proofs.Numbered.{index_at, index_past}
use Rattle.thread_driver.proofs.laws.closed_machines_list_what_was_issued.Goals as goal

pub returns-clause-there : goal.returns-clause-there
returns-clause-there c = λ run parts core below.
    index_at (λ j. (parts.seats j).issued) run.set_up.config.cores core [] below

pub returns-clause-none : goal.returns-clause-none
returns-clause-none c = λ run parts core past.
    index_past (λ j. (parts.seats j).issued) run.set_up.config.cores core [] past
