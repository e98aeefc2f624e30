use Rattle.std.proofs.Common.{◌≡◌, ◌+◌, None, false, if◌then◌else◌}
use Rattle.streamed_runs.specs.StreamStates.{IsOver}
use Rattle.report.specs.StreamParts.{HasWritten, IsRunning, IsTelling}
use Rattle.report.proofs.streams.stream_in_pieces.Given as goal

-- the run so far, its records that went out, that no call has failed, and what was told of it
abbrev pub invariant-pieces : goal.invariant-pieces
invariant-pieces g l = record {
  running : IsRunning l.options (g.S.Source.remaining l.fn.source) l.run (g.S.Source.remaining l.source);
  written : HasWritten l.options.records (g.K.Sink.contents l.fn.sink) (g.K.Sink.contents l.sink)
      l.run.machine.records;
  over : l.goes_on ≡ false → IsOver l.run;
  read : g.S.Source.failures l.source ≡ g.S.Source.failures l.fn.source;
  put : g.K.Sink.failures l.sink ≡ g.K.Sink.failures l.fn.sink;
  telling : IsTelling l.options (g.S.Source.remaining l.fn.source) l.run.machine.records l.tells
      (g.E.Sink.contents l.fn.errors) (g.E.Sink.contents l.errors) (g.E.Sink.failures l.fn.errors)
      (g.E.Sink.failures l.errors);
  quiet : l.options.progress ≡ None → l.errors ≡ l.fn.errors;
}

-- a piece makes a turn, or is the last
abbrev pub decreases-pieces : goal.decreases-pieces
decreases-pieces g l = l.run.left + (if l.goes_on then 1 else 0)
