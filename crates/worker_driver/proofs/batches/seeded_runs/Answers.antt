use Rattle.std.proofs.lemmas.Result.{IfOk-weaker}
use Rattle.litmus_reader.specs.TestViews.{test_of}
use Rattle.schedules.specs.declared.policy.Policy.TheVariants.{Seed}
use Rattle.worker_driver.proofs.SharedRuns.{are_from, are_jobs, have_outcomes}
use Rattle.worker_driver.proofs.batches.seeded_runs.Goals as goal

pub returns-clause-each : goal.returns-clause-each
returns-clause-each g c =
    let a = c.args in
    let test = test_of a.test.now in
    IfOk-weaker c.run_jobs.result _ _ (λ runs given. are_from test a.config (Seed a.first) a.limit 0 runs.items
    (are_jobs test a.config (Seed a.first) a.limit runs.items given)) c.run_jobs.ensures.given

pub returns-clause-outcomes : goal.returns-clause-outcomes
returns-clause-outcomes g c =
    let a = c.args in
    let test = test_of a.test.now in
    IfOk-weaker c.run_jobs.result _ _
    (λ runs given. have_outcomes test a.config (Seed a.first) a.limit 0
    runs.items (are_jobs test a.config (Seed a.first) a.limit runs.items given)) c.run_jobs.ensures.given
