use Rattle.std.proofs.Common.{rules}
use Rattle.stop_flags.proofs.Tells.{stops}
use Rattle.stop_flags.proofs.steps.signal_stopped.Goals as goal

pub fetch_or-requires : goal.fetch_or-requires
fetch_or-requires c = search (rules, stops)
