use Rattle.std.proofs.Common.{◌≢◌, ◌<◌, ◌≤◌, ℕ, []}
use Rattle.trace_reader.specs.Steps.{lane}
use Rattle.trace_reader.proofs.read_ahead.ReadAhead.next_empty_queue.Given as goal

abbrev pub invariant-loop-at : goal.invariant-loop-at
invariant-loop-at l = (core : ℕ) → l.from ≤ core → core < l.at → lane l.self.queues core ≢ []
