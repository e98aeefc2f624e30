use Rattle.std.proofs.Common.{◌≡◌, ◌≢◌, ◌<◌, ◌-◌, ◌+◌, ℕ, List, [], length, true}
use Rattle.programs.specs.declared.steps.Step.{Step}
use Rattle.trace_reader.specs.declared.limits.TheConstants.{MOST_NUMBERED}
use Rattle.trace_reader.specs.Filling.{AreNeeded, HasTaken}
use Rattle.trace_reader.specs.Reading.{numbered}
use Rattle.trace_reader.specs.Steps.{lane}
use Rattle.trace_reader.specs.Streams.{coming, Yields}
use Rattle.trace_reader.proofs.read_ahead.ReadAhead.fill.Given as goal

-- the steps that were taken are queued, and the queue at the place is the first that has none
abbrev pub invariant-steps : goal.invariant-steps
invariant-steps g l = record {
  taken : List (ℕ × (ℕ × Step));
  yields : Yields (coming l.fn.self.stream (g.S.Source.remaining l.fn.source))
      (coming l.self.stream (g.S.Source.remaining l.source)) taken;
  kept : HasTaken true l.fn.self l.self taken;
  needed : AreNeeded l.fn.wanted l.fn.self.queues taken;
  left : l.left ≡ l.fn.wanted - length taken;
  some : (core : ℕ) → core < l.at → lane l.self.queues core ≢ [];
  none : lane l.self.queues l.at ≡ [];
  counted : g.S.Source.failures l.source ≡ g.S.Source.failures l.fn.source;
}

-- a step leaves the stream, or the stream takes a line
abbrev pub decreases-steps : goal.decreases-steps
decreases-steps g l = (MOST_NUMBERED - l.self.stream.number) + length (numbered l.self.stream.number l.self.stream.held)
