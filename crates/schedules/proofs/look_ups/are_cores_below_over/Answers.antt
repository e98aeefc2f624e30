use Rattle.std.proofs.Common.{sym}
use Rattle.schedules.proofs.Over.{not_over}
use Rattle.schedules.proofs.look_ups.are_cores_below_over.Goals as goal

pub returns-then-not-is_core_over : goal.returns-then-not-is_core_over
returns-then-not-is_core_over g c =
    sym (not_over g.P.Program.acts c.args.system.now c.args.programs.now c.args.cores c.loop-core.core
    c.loop-core-test.true (sym c.if-not-is_core_over.ensures))
