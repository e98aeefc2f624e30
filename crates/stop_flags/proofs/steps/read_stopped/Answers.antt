use Rattle.std.proofs.Common.{rules}
use Rattle.stop_flags.proofs.Tells.{hears_stopped}
use Rattle.stop_flags.proofs.steps.read_stopped.Goals as goal

pub load-requires : goal.load-requires
load-requires c = search (rules, hears_stopped)
