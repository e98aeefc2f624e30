use Rattle.std.proofs.Common.{◌∙◌, List, ap, refl, sym, subst, true≢false, arith}
use Rattle.std.proofs.lemmas.Bool.{ltb-false}
use Rattle.byte_streams.specs.Device.{Grows}
use Rattle.byte_streams.specs.Whole.{GrowsByFront}
use Rattle.physiological_order.specs.declared.operation.Record.{Record}
use Rattle.report.specs.Answers.{IsReported}
use Rattle.report.specs.Layouts.{layout_of}
use Rattle.report.specs.Progress.{IsProgress, IsToldReport}
use Rattle.report.specs.Runs.{is_all_done}
use Rattle.report.specs.StreamParts.{HasWritten, text_if, text_unless}
use Rattle.trace_texts.specs.Records.{AreRanged}
use Rattle.report.proofs.StoppedPieces.{not_written, unread}
use Rattle.report.proofs.StreamedSteps.{laws_by}
use Rattle.report.proofs.ToldProgress.{more_told, none_told, progress_of}
use Rattle.report.proofs.WrittenPieces.{begun, cut, is_run_so_far, more_written, none_written, reported_in_part, told}
use Rattle.report.proofs.streams.stream_in_pieces.Goals as goal

pub pieces-init : goal.pieces-init
pieces-init g c = record {
  running = c.requires.running;
  written = none_written c.args.options.now.records (g.K.Sink.contents c.args.sink.now) c.args.run.now.machine.records
      c.requires.none;
  over = λ ends. absurd (true≢false ends);
  read = refl;
  put = refl;
  telling = none_told c.args.options.now (g.S.Source.remaining c.args.source.now)
      (g.E.Sink.contents c.args.errors.now) (g.E.Sink.failures c.args.errors.now) c.args.run.now.machine.records
      c.requires.none;
  quiet = λ none. refl;
}

pub pieces-preserved : goal.pieces-preserved
pieces-preserved g c =
    let options = c.args.options.now in
    let known = g.S.Source.remaining c.args.source.now in
    let laws = laws_by c.every_history_is_legal.ensures.consistent c.every_history_is_legal.ensures.opening
    c.runs_serve_programs.ensures in
    let old = g.K.Sink.contents c.args.sink.now in
    let now = g.K.Sink.contents c.pieces.sink in
    let new = g.K.Sink.contents c.write_records_if_asked.new.sink in
    let before = c.pieces.invariant in
    let made = c.in-Ok.ensures in
    let made_run = c.make_piece.new.run in
    let done = made_run.done in
    let running = made.runs options known before.running in
    let told = c.write_progress_if_due-tells.ensures in record {
      running = running;
      written = subst (HasWritten options.records old new) (sym made.added)
          (more_written options.records old now new c.pieces.run.machine.records done before.written
          (subst (λ (rs : List Record). Grows now new (text_if options.records rs)) c.done.ensures
          c.in_default.ensures.all)
          (λ asked. subst AreRanged c.done.ensures (c.in_default.ensures.ranged asked)));
      over = λ ends. let none = ltb-false 0 c.make_piece.new.run.left (sym made.goes_on ∙ ends) in omega (arith, none);
      read = made.none_failed ∙ before.read;
      put = c.in_default.ensures.none_failed ∙ before.put;
      telling = more_told options known c.pieces.run.machine.records done made_run made.added
          (is_run_so_far laws options known c.requires.good made_run
          (g.S.Source.remaining c.make_piece.new.source) running) running.going.kinds running.going.stale
          c.kinds.result.now.completed
          (ap (λ k. k.completed) (c.kinds.ensures ∙ before.running.going.kinds))
          c.pieces.tells c.write_progress_if_due-tells.result
          (g.E.Sink.contents c.args.errors.now) (g.E.Sink.contents c.pieces.errors)
          (g.E.Sink.contents c.write_progress_if_due-tells.new.errors) (g.E.Sink.failures c.args.errors.now)
          (g.E.Sink.failures c.pieces.errors) (g.E.Sink.failures c.write_progress_if_due-tells.new.errors)
          before.telling
          (λ is. let stays = told.stays is in (
            stays.0,
            ap (λ e. g.E.Sink.contents e) stays.1,
            ap (λ e. g.E.Sink.failures e) stays.1,
          )) told.told;
      quiet = λ none. told.quiet none ∙ before.quiet none;
    }

pub returns-in-Err-clause-stopped : goal.returns-in-Err-clause-stopped
returns-in-Err-clause-stopped g c =
    let options = c.args.options.now in
    let known = g.S.Source.remaining c.args.source.now in
    let old = g.K.Sink.contents c.args.sink.now in
    let now = g.K.Sink.contents c.pieces.sink in
    let before = c.pieces.invariant in
    let laws = laws_by c.every_history_is_legal.ensures.consistent c.every_history_is_legal.ensures.opening
    c.runs_serve_programs.ensures in
    unread options known old (g.S.Source.failures c.args.source.now) (g.K.Sink.failures c.args.sink.now) now
    (g.S.Source.failures c.make_piece.new.source) (g.S.Source.failures c.pieces.source)
    (g.K.Sink.failures c.pieces.sink) c.in-Err.error before.read before.put
    (begun laws options known c.requires.good c.pieces.run (g.S.Source.remaining c.pieces.source) old now
    before.running before.written) (c.in-Err.ensures.refused options known before.running)

pub returns-in-Err-write_records_if_asked-clause-stopped : goal.returns-in-Err-write_records_if_asked-clause-stopped
returns-in-Err-write_records_if_asked-clause-stopped g c =
    let options = c.args.options.now in
    let known = g.S.Source.remaining c.args.source.now in
    let old = g.K.Sink.contents c.args.sink.now in
    let now = g.K.Sink.contents c.pieces.sink in
    let new = g.K.Sink.contents c.write_records_if_asked.new.sink in
    let before = c.pieces.invariant in
    let made = c.in-Ok.ensures in
    let laws = laws_by c.every_history_is_legal.ensures.consistent c.every_history_is_legal.ensures.opening
    c.runs_serve_programs.ensures in
    not_written options known old (g.S.Source.failures c.args.source.now) (g.K.Sink.failures c.args.sink.now) now new
    (g.S.Source.failures c.make_piece.new.source) (g.K.Sink.failures c.pieces.sink)
    (g.K.Sink.failures c.write_records_if_asked.new.sink) (text_if options.records c.done.result.now)
    c.in-Err-write_records_if_asked.error
    (made.none_failed ∙ before.read) before.put
    (begun laws options known c.requires.good c.pieces.run (g.S.Source.remaining c.pieces.source) old now
    before.running before.written)
    (λ part. cut laws options known c.requires.good c.make_piece.new.run (g.S.Source.remaining c.make_piece.new.source)
    old now new c.pieces.run.machine.records (made.runs options known before.running) made.added before.written
    (subst (λ (rs : List Record). GrowsByFront now new (text_if options.records rs)) c.done.ensures part))
    c.in-Err-write_records_if_asked.ensures.failed

pub returns-in-Err-read_rest_of_trace-clause-stopped : goal.returns-in-Err-read_rest_of_trace-clause-stopped
returns-in-Err-read_rest_of_trace-clause-stopped g c =
    let options = c.args.options.now in
    let known = g.S.Source.remaining c.args.source.now in
    let old = g.K.Sink.contents c.args.sink.now in
    let now = g.K.Sink.contents c.pieces.sink in
    let before = c.pieces.invariant in
    let laws = laws_by c.every_history_is_legal.ensures.consistent c.every_history_is_legal.ensures.opening
    c.runs_serve_programs.ensures in
    unread options known old (g.S.Source.failures c.args.source.now) (g.K.Sink.failures c.args.sink.now) now
    (g.S.Source.failures c.read_rest_of_trace.new.source) (g.S.Source.failures c.pieces.source)
    (g.K.Sink.failures c.pieces.sink) c.in-Err-read_rest_of_trace.error before.read before.put
    (begun laws options known c.requires.good c.pieces.run (g.S.Source.remaining c.pieces.source) old now
    before.running before.written) (c.in-Err-read_rest_of_trace.ensures.refused options known before.running)

pub returns-in-Err-write_end_report-clause-stopped : goal.returns-in-Err-write_end_report-clause-stopped
returns-in-Err-write_end_report-clause-stopped g c =
    let options = c.args.options.now in
    let known = g.S.Source.remaining c.args.source.now in
    let old = g.K.Sink.contents c.args.sink.now in
    let now = g.K.Sink.contents c.pieces.sink in
    let new = g.K.Sink.contents c.write_end_report.new.sink in
    let before = c.pieces.invariant in
    let last = c.read_rest_of_trace.new.run in
    let rest = c.in_default-read_rest_of_trace.ensures in
    let laws = laws_by c.every_history_is_legal.ensures.consistent c.every_history_is_legal.ensures.opening
    c.runs_serve_programs.ensures in
    not_written options known old (g.S.Source.failures c.args.source.now) (g.K.Sink.failures c.args.sink.now) now new
    (g.S.Source.failures c.read_rest_of_trace.new.source) (g.K.Sink.failures c.pieces.sink)
    (g.K.Sink.failures c.write_end_report.new.sink) (text_unless options.records (layout_of options.json) last)
    c.in-Err-write_end_report.error (rest.none_failed ∙ before.read) before.put
    (begun laws options known c.requires.good c.pieces.run (g.S.Source.remaining c.pieces.source) old now
    before.running before.written)
    (λ part. reported_in_part laws options known c.requires.good last
    (g.S.Source.remaining c.read_rest_of_trace.new.source)
    (rest.ended options known before.running (before.over c.pieces-test.false)) old now new
    (subst (HasWritten options.records old now) (ap (λ m. m.records) (sym rest.stays)) before.written) part)
    c.in-Err-write_end_report.ensures.failed

pub returns-clause-told : goal.returns-clause-told
returns-clause-told g c =
    let options = c.args.options.now in
    let known = g.S.Source.remaining c.args.source.now in
    let old = g.K.Sink.contents c.args.sink.now in
    let now = g.K.Sink.contents c.pieces.sink in
    let new = g.K.Sink.contents c.write_end_report.new.sink in
    let first = g.E.Sink.contents c.args.errors.now in
    let last = g.E.Sink.contents c.pieces.errors in
    let failed = g.E.Sink.failures c.args.errors.now in
    let fails = g.E.Sink.failures c.pieces.errors in
    let before = c.pieces.invariant in
    let rest = c.in_default-read_rest_of_trace.ensures in
    let laws = laws_by c.every_history_is_legal.ensures.consistent c.every_history_is_legal.ensures.opening
    c.runs_serve_programs.ensures in
    subst (λ b. IsReported (IsToldReport options known b first last failed fails) old new)
    (sym (c.is_all_done.ensures ∙ ap is_all_done c.end.ensures))
    (told laws options known c.requires.good c.read_rest_of_trace.new.run
    (g.S.Source.remaining c.read_rest_of_trace.new.source)
    (rest.ended options known before.running (before.over c.pieces-test.false)) old now new
    (subst (HasWritten options.records old now) (ap (λ m. m.records) (sym rest.stays)) before.written) first last failed
    fails (subst (λ m. IsProgress options known m.records first last failed fails) (sym rest.stays)
    (progress_of options known c.pieces.run.machine.records c.pieces.tells first last failed fails before.telling))
    c.in_default-write_end_report.ensures.all)

pub returns-clause-end : goal.returns-clause-end
returns-clause-end g c =
    (c.in_default-read_rest_of_trace.ensures.ended c.args.options.now (g.S.Source.remaining c.args.source.now)
    c.pieces.invariant.running (c.pieces.invariant.over c.pieces-test.false)).at_end

pub returns-in-Err-clause-telling : goal.returns-in-Err-clause-telling
returns-in-Err-clause-telling g c =
    (c.pieces.run.machine.records, progress_of _ _ _ _ _ _ _ _ c.pieces.invariant.telling)

pub returns-in-Err-write_records_if_asked-clause-telling : goal.returns-in-Err-write_records_if_asked-clause-telling
returns-in-Err-write_records_if_asked-clause-telling g c =
    (c.pieces.run.machine.records, progress_of _ _ _ _ _ _ _ _ c.pieces.invariant.telling)

pub returns-in-Err-read_rest_of_trace-clause-telling : goal.returns-in-Err-read_rest_of_trace-clause-telling
returns-in-Err-read_rest_of_trace-clause-telling g c =
    (c.pieces.run.machine.records, progress_of _ _ _ _ _ _ _ _ c.pieces.invariant.telling)

pub returns-in-Err-write_end_report-clause-telling : goal.returns-in-Err-write_end_report-clause-telling
returns-in-Err-write_end_report-clause-telling g c =
    (c.pieces.run.machine.records, progress_of _ _ _ _ _ _ _ _ c.pieces.invariant.telling)

pub returns-clause-telling : goal.returns-clause-telling
returns-clause-telling g c = (c.pieces.run.machine.records, progress_of _ _ _ _ _ _ _ _ c.pieces.invariant.telling)
