use Rattle.std.proofs.Common.{◌∙◌, ap, sym, refl}
use Rattle.report_text.specs.Sums.{sums_of, sums_after}
use Rattle.report_text.specs.declared.sums.Sums.{Sums}
use Rattle.report_text.proofs.AddedUp.{sums_next}
use Rattle.report_text.proofs.FirstItems.{take_next}
use Rattle.report_text.proofs.sums.sum_over_runs.Goals as goal

pub loop-run-init : goal.loop-run-init
loop-run-init c = refl

pub loop-run-preserved : goal.loop-run-preserved
loop-run-preserved c =
    c.sums_with_run-sums.ensures ∙ ap (λ (s : Sums). sums_after s c.run-item.result) c.loop-run.invariant
    ∙ sums_next _ c.run-item.result
    ∙ ap sums_of (sym (take_next c.args.runs.now c.loop-run.run-index c.run-item.result
    c.loop-run-test.true c.run-item.is))
