use Rattle.std.proofs.Common.{◌≡◌, ℕ, List, Option, Result, Err, subst}
use Rattle.std.specs.Prelude.{IfErr}
use Rattle.byte_streams.specs.Whole.{GrowsByFront}
use Rattle.run_results.specs.declared.results.RunError.{RunError}
use Rattle.run_results.specs.declared.results.RunError.TheVariants.{Write}
use Rattle.report.specs.Answers.{IsWriteError}
use Rattle.report.proofs.reports.run_trace.Goals as goal

-- a failed write leaves a beginning of the text
cut : {A : Type 0} (r : Result A RunError) (old new : Option (List ℕ)) (before after : ℕ) (text : List ℕ) →
    IfErr r (IsWriteError old new before after text) → r ≡ Err Write → GrowsByFront old new text
cut {A} r old new before after text is failed =
    (subst (λ (q : Result A RunError). IfErr q (IsWriteError old new before after text)) failed is).0

pub returns-clause-cut_off : goal.returns-clause-cut_off
returns-clause-cut_off g c = λ failed. (
  c.in-Ok-report_of_trace.report.all_done,
  (
    c.in-Ok-report_of_trace.report.text.items,
    (c.in-Ok.trace, c.in-Ok.ensures.read, c.in-Ok-report_of_trace.ensures.report),
    subst (GrowsByFront (g.K.Sink.contents c.args.sink.now) (g.K.Sink.contents c.write_report.new.sink))
        c.deref.ensures.value
        (cut c.write_report.result _ _ _ _ c.deref.result.now c.write_report.ensures.failed failed),
  ),
)
