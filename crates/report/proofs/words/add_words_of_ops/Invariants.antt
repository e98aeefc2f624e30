use Rattle.std.proofs.Common.{◌≡◌, drop}
use Rattle.trace_reader.specs.Steps.{with_words}
use Rattle.report.proofs.words.add_words_of_ops.Given as goal

-- those so far, with those of what is left, are all of them
abbrev pub invariant-loop-op : goal.invariant-loop-op
invariant-loop-op l = with_words l.words (drop l.op-index l.ops) ≡ with_words l.fn.words l.ops
