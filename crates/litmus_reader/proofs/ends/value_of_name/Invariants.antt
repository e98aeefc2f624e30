use Rattle.std.proofs.Common.{◌≡◌, length}
use Rattle.litmus_reader.specs.Truth.{value_of}
use Rattle.litmus_reader.proofs.ends.value_of_name.Given as goal

abbrev pub invariant-loop-other : goal.invariant-loop-other
invariant-loop-other l = value_of l.names l.left l.fn.name ≡ value_of l.fn.seen l.fn.values l.fn.name

abbrev pub decreases-loop-other : goal.decreases-loop-other
decreases-loop-other l = length l.names
