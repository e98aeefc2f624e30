use Rattle.std.proofs.Common.{◌≡◌, [], Ok, Err, inl, inr, ◌+◌, arith}
use Rattle.std.proofs.lemmas.Result.{err_from_is_err_and}
use Rattle.trace_lines.specs.declared.errors.TraceError.{TraceError}
use Rattle.trace_lines.specs.Fields.{fields_of}
use Rattle.trace_reader.specs.declared.step_streams.StepStream.{StepStream}
use Rattle.trace_reader.specs.Ahead.{ahead}
use Rattle.trace_reader.specs.Causes.{FieldsCause}
use Rattle.trace_reader.specs.Reading.{said_at}
use Rattle.trace_reader.specs.Streams.{coming, Interrupts}
use Rattle.trace_reader.proofs.LinesMeant.{fault-of-line}
use Rattle.trace_reader.proofs.LinesRead.{long-of-line}
use Rattle.trace_reader.proofs.StepsMeant.{SaysFrom, steps-meant}
use Rattle.trace_reader.proofs.StreamLines.{source-end, stream-end, stream-long, stream-refused, stream-told}
use Rattle.trace_reader.proofs.StreamLines.{yields-both}
use Rattle.trace_reader.proofs.step_streams.StepStream.take_line.Goals as goal

pub returns-in_err-length-clause-fault : goal.returns-in_err-length-clause-fault
returns-in_err-length-clause-fault g c =
    let p = err_from_is_err_and c.from_residual.result c.from_residual.ensures.1 in
    let fault = c.in_err-length.field-0.0 in
    let s = c.args.self.now in
    let told : Interrupts (g.S.Source.failures c.args.source.now) (g.S.Source.failures c.next_line.new.source)
    (coming s (g.S.Source.remaining c.args.source.now)) fault =
    elim c.in_err-length.ensures.fault [
      | inl f ↦ inl f
      | inr f ↦ inr (f.1, long-of-line s.number fault f.0, stream-long s c.requires _ _ fault f.0 f.2)
    ]
    in rw (p.1, p.2) told

pub returns-in_default-clause-end : goal.returns-in_default-clause-end
returns-in_default-clause-end g c = λ e.
    let s = c.args.self.now in
    let l = c.in_ok-length in (
      source-end s c.requires _ _ _ l.field-0 l.ensures.next c.in_default.is,
      stream-end s c.requires _ _ _ l.field-0 l.ensures.next c.in_default.is,
      c.requires,
    )

pub returns-in-Err-clause-fault : goal.returns-in-Err-clause-fault
returns-in-Err-clause-fault g c =
    let s = c.args.self.now in
    let l = c.in_ok-length in
    let short = rw c.in-Some.is at l.ensures.short in
    let fields = fields_of c.front.result.now in
    let e : TraceError = record { line = s.number + 1; kind = c.in-Err.kind } in
    let refused : said_at s.form fields ≡ Err c.in-Err.kind = cc (c.read_form_and_step.ensures.told, c.in-Err.is) in
    inr (
      l.ensures.none_failed,
      fault-of-line said_at SaysFrom FieldsCause steps-meant s.form fields e (omega arith) refused,
      stream-refused s c.requires _ _ (ahead c.next_line.new.block) l.field-0 l.ensures.next c.in-Some.length
          c.in-Some.is short c.front.result.now c.front.ensures c.in-Err.kind refused,
    )

pub returns-in-Ok-clause-kept : goal.returns-in-Ok-clause-kept
returns-in-Ok-clause-kept g c =
    let s = c.args.self.now in
    let l = c.in_ok-length in
    let short = rw c.in-Some.is at l.ensures.short in
    let told : said_at s.form (fields_of c.front.result.now) ≡ Ok (c.in-Ok.form, c.in-Ok.told) =
    cc (c.read_form_and_step.ensures.told, c.in-Ok.is) in
    let t : StepStream = record {
      block = c.remove_line.new.self;
      number = s.number + 1;
      form = c.in-Ok.form;
      held = c.in-Ok.told;
      numbered = c.self-in-Ok-1.given.0;
      few = c.self-in-Ok-1.given.1.0;
    }
    in
    yields-both s t [] _ _
    (stream-told s c.requires _ _ (ahead c.next_line.new.block) l.field-0 l.ensures.next c.in-Some.length c.in-Some.is
    short c.front.result.now c.front.ensures c.in-Ok.form c.in-Ok.told _ c.remove_line.ensures told)
