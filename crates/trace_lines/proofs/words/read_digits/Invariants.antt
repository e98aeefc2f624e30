use Rattle.std.proofs.Common.{length, ◌-◌}
use Rattle.trace_lines.proofs.FrontNumbers.{Goes}
use Rattle.trace_lines.proofs.words.read_digits.Given as goal

abbrev pub invariant-loop-count : goal.invariant-loop-count
invariant-loop-count l = Goes l.is_hexadecimal l.bytes l.value l.count

abbrev pub decreases-loop-count : goal.decreases-loop-count
decreases-loop-count l = length l.bytes - l.count
