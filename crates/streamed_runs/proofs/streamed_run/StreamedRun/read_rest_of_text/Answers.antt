use Rattle.std.proofs.Common.{◌≡◌, [], subst, sym}
use Rattle.trace_reader.specs.Streams.{coming, Yields}
use Rattle.trace_reader.proofs.Lemmas.{yields-none}
use Rattle.streamed_runs.specs.StreamStates.{IsGoing, StreamState}
use Rattle.streamed_runs.proofs.EndedRuns.{ended_already, ended_behind}
use Rattle.streamed_runs.proofs.streamed_run.StreamedRun.read_rest_of_text.Goals as goal

pub returns-then-self-clause-ended : goal.returns-then-self-clause-ended
returns-then-self-clause-ended g c = λ taken going over. ([], yields-none _, ended_already taken _ going over)

pub returns-clause-ended : goal.returns-clause-ended
returns-clause-ended g c = λ taken going over.
    let read = c.in_ok-has_more.ensures.skipped in let here = sym c.self.view_is in (
      read.0,
      subst (λ (s : StreamState). Yields (coming s.ahead.stream (g.S.Source.remaining c.args.source.now))
          (coming c.skip.new.self.stream (g.S.Source.remaining c.skip.new.source)) read.0) c.self.view_is read.1,
      rw c.end_of_streamed_run-self-inside.ensures
          (ended_behind taken read.0 _ (subst (IsGoing taken) here going)
          (subst (λ (s : StreamState). s.left ≡ 0) here over) c.if-self.false c.self.invariant.1 c.skip.new.self read.2
          c.in_ok-has_more.has_more read.3 _),
    )
