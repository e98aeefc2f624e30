use Rattle.std.proofs.Common.{rules}
use Rattle.stop_flags.proofs.Tells.{finishes}
use Rattle.stop_flags.proofs.steps.signal_finished.Goals as goal

pub fetch_add-requires : goal.fetch_add-requires
fetch_add-requires c = search (rules, finishes)
