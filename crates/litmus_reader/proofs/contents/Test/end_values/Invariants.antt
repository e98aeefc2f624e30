use Rattle.std.proofs.Common.{◌≡◌, ◌++◌, length, map}
use Rattle.litmus_reader.specs.Truth.{end_value}
use Rattle.litmus_reader.specs.TestViews.{test_of}
use Rattle.litmus_reader.proofs.contents.Test.end_values.Given as goal

-- the values so far and those that are left are all of them
abbrev pub invariant-loop-name : goal.invariant-loop-name
invariant-loop-name l = l.values.items ++ map (end_value l.fn.threads l.fn.memory) l.left ≡ map
    (end_value l.fn.threads l.fn.memory) (test_of l.fn.self).seen

abbrev pub decreases-loop-name : goal.decreases-loop-name
decreases-loop-name l = length l.left
