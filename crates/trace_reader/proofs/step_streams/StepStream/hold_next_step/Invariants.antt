use Rattle.std.proofs.Common.{◌≡◌, ◌≤◌, ◌<◌, ◌-◌, ◌⊎◌, []}
use Rattle.trace_reader.specs.declared.limits.TheConstants.{MOST_NUMBERED}
use Rattle.trace_reader.specs.Streams.{coming, Yields}
use Rattle.trace_reader.proofs.step_streams.StepStream.hold_next_step.Given as goal

-- what is to come stays, and a line was taken unless what is held stays
abbrev pub invariant-lines : goal.invariant-lines
invariant-lines g l = record {
  kept : Yields (coming l.fn.self (g.S.Source.remaining l.fn.source))
      (coming l.self (g.S.Source.remaining l.source)) [];
  counted : g.S.Source.failures l.source ≡ g.S.Source.failures l.fn.source;
  further : l.fn.self.number ≤ l.self.number;
  moved : (l.fn.self.number < l.self.number) ⊎ (l.self.held ≡ l.fn.self.held);
}

abbrev pub decreases-lines : goal.decreases-lines
decreases-lines g l = MOST_NUMBERED - l.self.number
