use Rattle.std.proofs.Common.{◌≡◌, ◌≤◌}
use Rattle.streamed_runs.specs.StreamStates.{opens_below}
use Rattle.streamed_runs.proofs.streamed_run.count_open_operations.Given as goal

abbrev pub invariant-loop-core : goal.invariant-loop-core
invariant-loop-core l = (l.count ≡ opens_below l.system l.core) × (l.count ≤ l.core)
