use Rattle.schedules.proofs.Events.{none_told}
use Rattle.schedules.proofs.look_ups.mark_operation_done.Goals as goal

pub returns-then-is_some-clause-told : goal.returns-then-is_some-clause-told
returns-then-is_some-clause-told g c = none_told g.P.Program.acts c.args.programs.now c.args.log.now

pub returns-in_default-clause-told : goal.returns-in_default-clause-told
returns-in_default-clause-told g c = none_told g.P.Program.acts c.args.programs.now c.args.log.now
