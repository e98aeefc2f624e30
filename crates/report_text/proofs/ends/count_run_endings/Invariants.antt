use Rattle.std.proofs.Common.{◌≡◌, take}
use Rattle.litmus_reader.specs.TestViews.{test_of}
use Rattle.report_text.specs.Ends.{endings_of}
use Rattle.report_text.proofs.ends.count_run_endings.Given as goal

-- the runs so far
abbrev pub invariant-loop-run : goal.invariant-loop-run
invariant-loop-run l = l.endings ≡ endings_of (test_of l.test) (take l.run-index l.runs)
