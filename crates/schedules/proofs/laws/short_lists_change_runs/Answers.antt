use Rattle.schedules.proofs.ShortLists.{longer_makes, one_is_short, short_ends}
use Rattle.schedules.proofs.laws.short_lists_change_runs.Goals as goal

pub returns-clause-too_short : goal.returns-clause-too_short
returns-clause-too_short g = λ a b ahead. one_is_short a b (ahead 0)

pub returns-clause-short : goal.returns-clause-short
returns-clause-short g = λ keeps m one_core free. short_ends m one_core free keeps

pub returns-clause-longer : goal.returns-clause-longer
returns-clause-longer g = λ keeps m after a left events end one_core free.
    longer_makes m one_core free a keeps events after left end
