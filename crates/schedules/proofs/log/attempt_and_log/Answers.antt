use Rattle.std.proofs.Common.{rules}
use Rattle.schedules.proofs.log.attempt_and_log.Goals as goal

pub see-requires : goal.see-requires
see-requires g c = (c.args.system.now, search rules)
