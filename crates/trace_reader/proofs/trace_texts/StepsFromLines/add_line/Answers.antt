use Rattle.std.proofs.Common.{◌≡◌, Some, Ok, Err, inr, refl}
use Rattle.trace_lines.specs.declared.errors.TraceError.{TraceError}
use Rattle.trace_lines.specs.Fields.{fields_of}
use Rattle.trace_reader.specs.Causes.{FieldsCause}
use Rattle.trace_reader.specs.Reading.{said_at}
use Rattle.trace_reader.proofs.ByCore.{bycore-push}
use Rattle.trace_reader.proofs.LinesMeant.{fault-of-line}
use Rattle.trace_reader.proofs.StepsMeant.{SaysFrom, steps-meant}
use Rattle.trace_reader.proofs.trace_texts.StepsFromLines.add_line.Goals as goal

pub returns-in-Err-clause-fault : goal.returns-in-Err-clause-fault
returns-in-Err-clause-fault c told state h =
    let fields = fields_of c.args.line.now in
    let e : TraceError = record { line = c.args.number; kind = c.in-Err.kind } in
    let here : said_at c.args.self.now.form fields ≡ Err c.in-Err.kind =
    cc (c.read_form_and_step.ensures.told, c.in-Err.is) in
    let refused : said_at state fields ≡ Err c.in-Err.kind = rw h.1 at here in
    inr (fault-of-line said_at SaysFrom FieldsCause steps-meant state fields e c.requires.some refused, refl, refused)

pub returns-in-Ok-push-clause-added : goal.returns-in-Ok-push-clause-added
returns-in-Ok-push-clause-added c told state h =
    let fields = fields_of c.args.line.now in
    let s = c.in-Some in
    let here : said_at c.args.self.now.form fields ≡ Ok (c.in-Ok.form, Some (s.core, s.step)) =
    cc (c.read_form_and_step.ensures.told, c.in-Ok.is, s.is) in (
      c.in-Ok.form,
      Some (s.core, s.step),
      rw h.1 at here,
      (
        bycore-push told c.args.self.now.trace c.push.new.self s.core s.step h.0 c.in-Ok-push.ensures.cores
            c.in-Ok-push.ensures.steps,
        refl,
      ),
    )
