use Rattle.std.proofs.Common.{◌≡◌, take}
use Rattle.report_text.specs.Sums.{sums_of}
use Rattle.report_text.proofs.sums.sum_over_runs.Given as goal

-- the sums so far
abbrev pub invariant-loop-run : goal.invariant-loop-run
invariant-loop-run l = l.sums ≡ sums_of (take l.run-index l.runs)
