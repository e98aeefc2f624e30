use Rattle.schedules.proofs.RunLaws.{same_list}
use Rattle.schedules.proofs.laws.watching_changes_no_event.Goals as goal

pub returns : goal.returns
returns g c = same_list g.P.Program.acts
