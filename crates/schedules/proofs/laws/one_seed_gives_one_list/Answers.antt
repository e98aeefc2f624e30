use Rattle.std.proofs.Common.{false}
use Rattle.schedules.proofs.RunLaws.{same_list}
use Rattle.schedules.proofs.laws.one_seed_gives_one_list.Goals as goal

pub returns : goal.returns
returns g c = same_list g.P.Program.acts false false
