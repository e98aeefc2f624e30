use Rattle.std.proofs.Common.{◌≡◌}
use Rattle.report.specs.Runs.{programs_below}
use Rattle.report.proofs.trace_programs.programs_of_trace.Given as goal

abbrev pub invariant-loop-core : goal.invariant-loop-core
invariant-loop-core l = l.programs.items ≡ programs_below l.trace l.core
