use Rattle.std.proofs.Common.{◌<◌, ◌≤◌, ℕ, length}
use Rattle.trace_reader.specs.Steps.{lane}
use Rattle.trace_reader.proofs.QueuedSteps.{HasSteps}
use Rattle.trace_reader.proofs.read_ahead.ReadAhead.shortest.Given as goal

-- no more than each so far has, and as many as one has
abbrev pub invariant-loop-at : goal.invariant-loop-at
invariant-loop-at l =
    ((core : ℕ) → core < l.at → l.shortest ≤ length (lane l.self.queues core)) × HasSteps l.self.queues l.shortest
