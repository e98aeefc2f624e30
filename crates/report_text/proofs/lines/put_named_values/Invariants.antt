use Rattle.std.proofs.Common.{◌≡◌, ◌++◌, length}
use Rattle.litmus_reader.specs.TestViews.{test_of}
use Rattle.report_text.specs.Lines.{named_values, values_text}
use Rattle.report_text.proofs.lines.put_named_values.Given as goal

-- the text so far and that of what is left are all of it
abbrev pub invariant-loop-name : goal.invariant-loop-name
invariant-loop-name l = l.out.items ++ values_text l.layout (test_of l.test).locations l.first l.names l.left
    ≡ l.fn.out.items ++ named_values l.layout (test_of l.test) l.values

abbrev pub decreases-loop-name : goal.decreases-loop-name
decreases-loop-name l = length l.names
