use Rattle.std.proofs.Common.{◌≡◌, [], ◌∷◌, ◌+◌, List, length, ap, sym, subst, ◌∙◌, arith, length-append}
use Rattle.std.specs.List.{AllByRecursion}
use Rattle.litmus_reader.specs.TestViews.{test_of}
use Rattle.machine_table.specs.Machine.{Machine}
use Rattle.machine_table.specs.declared.config.Config.{Config}
use Rattle.report_text.specs.declared.run_end.RunEnd.{RunEnd}
use Rattle.schedules.specs.declared.policy.Policy.{Policy}
use Rattle.schedules.specs.Batches.{policy_of_run}
use Rattle.worker_driver.specs.declared.set_up.Driver.TheVariants.{ByPolicy}
use Rattle.worker_driver.specs.Outcomes.{HasOutcome}
use Rattle.worker_driver.specs.Runs.{AreFrom, IsRun}
use Rattle.worker_driver.proofs.SameRuns.{one_more, one_more_run}
use Rattle.worker_driver.proofs.batches.policy_runs.Goals as goal

pub loop-number-preserved : goal.loop-number-preserved
loop-number-preserved c =
    let test = test_of c.args.test.now in
    let before = c.loop-number.runs.items in
    let run = c.in_ok-run.run' in
    let items = c.in_ok-push.ensures.items in
    let i = c.loop-number.invariant in
    let set_up = ap (λ (m : Machine). m.config) c.in_ok-system.ensures in
    let place : length before ≡ 0 + length before = omega arith in
    let policy = c.of_run.ensures ∙ ap (policy_of_run c.args.first) (sym i.0 ∙ place) in
    let made =
    subst (λ (f : Config). IsRun test f (ByPolicy (policy_of_run c.args.first (0 + length before))) c.args.limit run)
    set_up
    (subst (λ (p : Policy). IsRun test c.in_ok-system.system.config (ByPolicy p) c.args.limit run) policy
    c.in_ok-run.ensures.run) in (
      ap length items ∙ length-append before (run ∷ []) ∙ ap (λ n. n + 1) i.0,
      subst (λ (rs : List RunEnd). AreFrom test c.args.config (ByPolicy c.args.first) c.args.limit 0 rs) (sym items)
          (one_more_run test c.args.config (ByPolicy c.args.first) c.args.limit 0 before run i.1 made),
      subst (AllByRecursion (HasOutcome test)) (sym items)
          (one_more (HasOutcome test) before run i.2 c.in_ok-run.ensures.outcome),
      c.in_ok-run.ensures.config ∙ set_up,
    )
