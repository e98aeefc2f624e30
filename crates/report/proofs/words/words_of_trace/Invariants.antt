use Rattle.std.proofs.Common.{◌≡◌}
use Rattle.report.specs.Runs.{words_below}
use Rattle.report.proofs.words.words_of_trace.Given as goal

abbrev pub invariant-loop-core : goal.invariant-loop-core
invariant-loop-core l = l.words ≡ words_below l.trace l.core
