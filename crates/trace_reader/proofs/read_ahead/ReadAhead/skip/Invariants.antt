use Rattle.std.proofs.Common.{◌≡◌, ◌-◌, ◌+◌, ℕ, List, nat_lt, length, false}
use Rattle.programs.specs.declared.steps.Step.{Step}
use Rattle.trace_reader.specs.declared.limits.TheConstants.{MOST_NUMBERED}
use Rattle.trace_reader.specs.Filling.{HasTaken}
use Rattle.trace_reader.specs.Reading.{numbered}
use Rattle.trace_reader.specs.Streams.{coming, Yields}
use Rattle.trace_reader.proofs.read_ahead.ReadAhead.skip.Given as goal

abbrev pub invariant-steps : goal.invariant-steps
invariant-steps g l = record {
  taken : List (ℕ × (ℕ × Step));
  yields : Yields (coming l.fn.self.stream (g.S.Source.remaining l.fn.source))
      (coming l.self.stream (g.S.Source.remaining l.source)) taken;
  kept : HasTaken false l.fn.self l.self taken;
  some : l.some ≡ nat_lt 0 (length taken);
  counted : g.S.Source.failures l.source ≡ g.S.Source.failures l.fn.source;
}

-- a step leaves the stream, or the stream takes a line
abbrev pub decreases-steps : goal.decreases-steps
decreases-steps g l = (MOST_NUMBERED - l.self.stream.number) + length (numbered l.self.stream.number l.self.stream.held)
