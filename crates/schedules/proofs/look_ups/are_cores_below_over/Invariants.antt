use Rattle.std.proofs.Common.{◌≡◌, true}
use Rattle.schedules.specs.Runs.{are_over}
use Rattle.schedules.proofs.look_ups.are_cores_below_over.Given as goal

abbrev pub invariant-loop-core : goal.invariant-loop-core
invariant-loop-core g l = are_over g.P.Program.acts l.system l.programs l.core ≡ true
