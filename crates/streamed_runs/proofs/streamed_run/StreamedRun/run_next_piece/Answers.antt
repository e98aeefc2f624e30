use Rattle.std.proofs.Common.{◌≡◌, ◌<◌, true, false, [], length, not, Ok, subst, sym, ap, ◌∙◌, arith}
use Rattle.std.specs.List.{refill}
use Rattle.trace_reader.specs.Streams.{coming, Yields}
use Rattle.trace_reader.proofs.Lemmas.{yields-none}
use Rattle.streamed_runs.specs.StreamStates.{IsAllRead, IsGoing, StreamState}
use Rattle.streamed_runs.specs.Summaries.{all_counted}
use Rattle.streamed_runs.proofs.GoingRuns.{Laws, all_is_done, is_further, stays_over, takes_turns}
use Rattle.streamed_runs.proofs.MadePieces.{put_back, some_core, some_in_each, some_queue, stays_sound, turned}
use Rattle.streamed_runs.proofs.streamed_run.StreamedRun.run_next_piece.Goals as goal

pub returns-then-self-eq0-clause-went : goal.returns-then-self-eq0-clause-went
returns-then-self-eq0-clause-went g c = λ taken going. (
  [],
  subst (λ (s : StreamState). Yields (coming s.ahead.stream (g.S.Source.remaining c.args.source.now))
      (coming c.self.inside.ahead.stream (g.S.Source.remaining c.args.source.now)) []) c.self.view_is (yields-none _),
  stays_over taken _ (subst (IsGoing taken) (sym c.self.view_is) going) c.clear.new.self.items,
)

pub returns-then-is_stream_done-clause-went : goal.returns-then-is_stream_done-clause-went
returns-then-is_stream_done-clause-went g c = λ taken going.
    let read = c.read_ahead_of_piece.ensures.filled in let law = c.lists_are_filled_between_turns.ensures in
    let on = c.runs_go_on.ensures in let by = c.pieces_go_by_turns.ensures in let laws : Laws = record {
      joins = law.filled;
      fills = law.goes_on;
      begins = on.begins;
      further = on.further;
      turns = by.turns;
      sum = by.sum;
      used = by.used;
    } in
    let done = c.is_stream_done.ensures.yes c.if-is_stream_done.true in (
      read.0,
      subst (λ (s : StreamState). Yields (coming s.ahead.stream (g.S.Source.remaining c.args.source.now))
          (coming c.read_ahead_of_piece.new.ahead.stream (g.S.Source.remaining c.read_ahead_of_piece.new.source))
          read.0) c.self.view_is read.1,
      all_is_done laws taken read.0 _ (subst (IsGoing taken) (sym c.self.view_is) going)
          (omega (arith, c.if-self-eq0.false)) c.self.invariant.1 c.read_ahead_of_piece.new.ahead read.2
          (not c.in_ok-has_more.has_more) (λ is. (read.3 is, ap not (c.in_ok-has_more.ensures.over is))) (ap not done.0)
          done.1 (c.are_empty.ensures.all done.2)
          c.clear.new.self.items,
    )

pub invariant_of-self-in_default : goal.invariant_of-self-in_default
invariant_of-self-in_default g c =
    stays_sound c.make_piece-end.ensures c.read_ahead_of_piece.new.ahead.queues c.queues-queues.ensures.value
    c.make_piece-end.auto.queues c.self.invariant.0
    (c.read_ahead_of_piece.ensures.filled.2.queued.0 ∙ c.self.invariant.1)
    c.self.invariant.2

pub invariant_of-self-2 : goal.invariant_of-self-2
invariant_of-self-2 g c =
    stays_sound c.make_piece-end.ensures c.read_ahead_of_piece.new.ahead.queues c.queues-queues.ensures.value
    c.make_piece-end.auto.queues c.self.invariant.0
    (c.read_ahead_of_piece.ensures.filled.2.queued.0 ∙ c.self.invariant.1)
    c.self.invariant.2

pub returns-clause-went : goal.returns-clause-went
returns-clause-went g c = λ taken going.
    let read = c.read_ahead_of_piece.ensures.filled in let law = c.lists_are_filled_between_turns.ensures in
    let on = c.runs_go_on.ensures in let by = c.pieces_go_by_turns.ensures in let laws : Laws = record {
      joins = law.filled;
      fills = law.goes_on;
      begins = on.begins;
      further = on.further;
      turns = by.turns;
      sum = by.sum;
      used = by.used;
    } in
    let many = read.2.queued.0 ∙ c.self.invariant.1 in let queues = c.read_ahead_of_piece.new.ahead.queues in
    let cores = some_core c.self.inside.system.config c.self.invariant.0 in
    let turns = c.turns_for_piece-turns.ensures in
    let any : 0 < length queues = omega (arith, many, cores) in (
      read.0,
      subst (λ (s : StreamState). Yields (coming s.ahead.stream (g.S.Source.remaining c.args.source.now))
          (coming c.read_ahead_of_piece.new.ahead.stream (g.S.Source.remaining c.read_ahead_of_piece.new.source))
          read.0) c.self.view_is read.1,
      rw c.turns_left_after_piece-self-inside.ensures
          (is_further laws taken read.0 _ (subst (IsGoing taken) (sym c.self.view_is) going)
          (omega (arith, c.if-self-eq0.false)) c.self.invariant.1 c.read_ahead_of_piece.new.ahead read.2
          (not c.in_ok-has_more.has_more) (λ is. (read.3 is, ap not (c.in_ok-has_more.ensures.over is)))
          c.turns_for_piece-turns.result turns.most
          (λ all. some_queue queues any c.in_ok-has_more.has_more c.are_empty.result
          (λ is. c.in_ok-has_more.ensures.all (ap Ok is)) c.are_empty.ensures.one
          (c.is_stream_done.ensures.not c.if-is_stream_done.false all))
          (λ is core below. let most = turns.ahead (turned c.in_ok-has_more.has_more false is) in
          let least = c.shortest.ensures.least core (omega (arith, below, many)) in omega (arith, most, least))
          c.make_piece-end.new.pace c.make_piece-end.new.system (refill (length queues) queues
          c.make_piece-end.new.queues)
          c.make_piece-end.result.0 c.make_piece-end.result.1.items
          (put_back c.make_piece-end.ensures queues c.queues-queues.ensures.value c.make_piece-end.auto.queues)
          c.count_records.new.self (c.in-Ok.ensures ∙ ap (all_counted c.self.inside.summary) c.deref.ensures.value)),
    )

pub returns-clause-end : goal.returns-clause-end
returns-clause-end g c = λ ends before.
    c.in_ok-has_more.ensures.end (ap Ok (turned c.in_ok-has_more.has_more true ends))
    (subst (λ (s : StreamState). s.at_end ≡ true → IsAllRead (g.S.Source.remaining c.args.source.now)
    (g.S.Source.remaining c.args.source.now) s.ahead.stream) (sym c.self.view_is) before)

pub returns-clause-further : goal.returns-clause-further
returns-clause-further g c = λ is.
    let read = c.read_ahead_of_piece.ensures.filled in let many = read.2.queued.0 ∙ c.self.invariant.1 in
    let cores = some_core c.self.inside.system.config c.self.invariant.0 in
    let turns = c.turns_for_piece-turns.ensures in
    let queues = c.read_ahead_of_piece.new.ahead.queues in let any : 0 < length queues = omega (arith, many, cores) in
    let some = turns.some (omega (arith, c.if-self-eq0.false))
    (λ is. some_in_each queues c.shortest.result any c.shortest.ensures.one
    (c.in_ok-has_more.ensures.all (ap Ok is))) in
    subst (λ (s : StreamState). c.turns_left_after_piece-self-inside.result < s.left) c.self.view_is
    (rw c.turns_left_after_piece-self-inside.ensures
    (takes_turns c.self.inside.left c.turns_for_piece-turns.result _ some turns.most))
