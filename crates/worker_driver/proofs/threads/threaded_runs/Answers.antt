use Rattle.std.proofs.Common.{[], ◌∷◌, ◌+◌, List, length, ap, sym, subst, ◌∙◌, length-append}
use Rattle.std.specs.List.{AllByRecursion}
use Rattle.litmus_reader.specs.TestViews.{test_of}
use Rattle.report_text.specs.declared.run_end.RunEnd.{RunEnd}
use Rattle.worker_driver.specs.declared.set_up.Driver.TheVariants.{ByThreads}
use Rattle.worker_driver.specs.Outcomes.{HasOutcome}
use Rattle.worker_driver.specs.Runs.{AreFrom}
use Rattle.worker_driver.proofs.SameRuns.{one_more, one_more_run}
use Rattle.worker_driver.proofs.threads.threaded_runs.Goals as goal

pub loop-preserved : goal.loop-preserved
loop-preserved g c =
    let test = test_of c.args.test.now in
    let before = c.loop.runs.items in
    let run = c.in_ok-run.run' in
    let items = c.in_ok-push.ensures.items in
    let i = c.loop.invariant in (
      ap length items ∙ length-append before (run ∷ []) ∙ ap (λ n. n + 1) i.0,
      subst (λ (rs : List RunEnd). AreFrom test c.args.config (ByThreads c.args.fair) c.args.limit 0 rs) (sym items)
          (one_more_run test c.args.config
          (ByThreads c.args.fair) c.args.limit 0 before run i.1 c.in_ok-run.ensures.run),
      subst (AllByRecursion (HasOutcome test)) (sym items)
          (one_more (HasOutcome test) before run i.2 c.in_ok-run.ensures.outcome),
    )
