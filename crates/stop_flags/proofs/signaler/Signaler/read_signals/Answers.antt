use Rattle.std.proofs.Common.{rules}
use Rattle.stop_flags.proofs.signaler.Signaler.read_signals.Goals as goal

pub returns-clause-finished : goal.returns-clause-finished
returns-clause-finished c = search rules
