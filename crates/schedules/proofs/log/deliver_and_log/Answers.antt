use Rattle.std.proofs.Common.{rules}
use Rattle.schedules.proofs.log.deliver_and_log.Goals as goal

pub log_answer-requires : goal.log_answer-requires
log_answer-requires g c = (c.args.system.now, search rules)
