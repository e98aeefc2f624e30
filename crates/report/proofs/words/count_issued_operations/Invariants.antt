use Rattle.std.proofs.Common.{◌≡◌, ◌≤◌, ◌*◌, ◌^◌}
use Rattle.machine_table.specs.Machine.{Machine}
use Rattle.streamed_runs.specs.StreamStates.{issued_below}
use Rattle.report.proofs.words.count_issued_operations.Given as goal

abbrev pub invariant-loop-core : goal.invariant-loop-core
invariant-loop-core g l =
    ((m : Machine) → g.M.Finished.shows l.machine m → l.issued ≡ issued_below m l.core)
    × (l.issued ≤ l.core * 2 ^ 64)
