use Rattle.std.proofs.Common.{◌≡◌, [], replicate}
use Rattle.trace_reader.proofs.read_ahead.ReadAhead.new.Given as goal

abbrev pub invariant-loop : goal.invariant-loop
invariant-loop l = l.queues.items ≡ replicate l.counter []
