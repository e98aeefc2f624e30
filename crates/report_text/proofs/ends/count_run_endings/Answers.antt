use Rattle.std.proofs.Common.{◌<◌, ◌^◌, ◌∙◌, ap, length, sym, refl, rules, take}
use Rattle.litmus_reader.specs.TestViews.{test_of}
use Rattle.report_text.specs.Ends.{endings_of, with_run}
use Rattle.report_text.specs.declared.ends.Endings.{Endings}
use Rattle.report_text.proofs.EndedRuns.{are_few, endings_next}
use Rattle.report_text.proofs.FirstItems.{take_next}
use Rattle.report_text.proofs.ends.count_run_endings.Goals as goal

pub loop-run-init : goal.loop-run-init
loop-run-init c = refl

pub endings_with_run-endings-requires : goal.endings_with_run-endings-requires
endings_with_run-endings-requires c =
    let fits : length c.args.runs.now < 2 ^ 64 = search rules in
    are_few (test_of c.args.test.now) c.args.runs.now c.loop-run.run-index _ c.loop-run.invariant
    c.loop-run-test.true fits

pub loop-run-preserved : goal.loop-run-preserved
loop-run-preserved c =
    let test = test_of c.args.test.now in
    c.endings_with_run-endings.ensures ∙ ap (λ (e : Endings). with_run test e c.run-item.result) c.loop-run.invariant
    ∙ endings_next test (take c.loop-run.run-index c.args.runs.now) c.run-item.result
    ∙ ap (endings_of test) (sym (take_next c.args.runs.now c.loop-run.run-index c.run-item.result
    c.loop-run-test.true c.run-item.is))
