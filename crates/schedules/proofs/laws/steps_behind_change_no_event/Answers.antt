use Rattle.schedules.proofs.LongerRuns.{steps_behind}
use Rattle.schedules.proofs.laws.steps_behind_change_no_event.Goals as goal

pub returns : goal.returns
returns g = steps_behind
