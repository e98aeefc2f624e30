use Rattle.schedules.proofs.Events.{none_told}
use Rattle.schedules.proofs.look_ups.mark_advance_done.Goals as goal

pub returns-then-not-is_advanced-clause-told : goal.returns-then-not-is_advanced-clause-told
returns-then-not-is_advanced-clause-told g c = none_told g.P.Program.acts c.args.programs.now c.args.log.now
