use Rattle.std.proofs.Common.{rules}
use Rattle.stop_flags.proofs.Tells.{hears_finished}
use Rattle.stop_flags.proofs.steps.read_finished.Goals as goal

pub load-requires : goal.load-requires
load-requires c = search (rules, hears_finished)
