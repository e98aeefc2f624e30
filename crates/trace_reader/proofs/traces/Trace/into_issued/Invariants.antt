use Rattle.std.proofs.Common.{◌≡◌, map}
use Rattle.trace_reader.specs.Steps.{ops_of}
use Rattle.trace_reader.proofs.traces.Trace.into_issued.Given as goal

abbrev pub invariant-loop-lane : goal.invariant-loop-lane
invariant-loop-lane l = map (λ ops. ops.items) l.lists.items ≡ map ops_of l.yielded
