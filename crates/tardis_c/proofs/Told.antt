-- What came of a call is told; and the schedules of C's options take no threads.
use Rattle.std.proofs.Common.{ℕ, ◌≢◌, Bool, true, false, cond, List, Result, Ok, Err, IfOk, IfErr, inl, inr}
use Rattle.report.specs.declared.outputs.Report.{Report}
use Rattle.run_options.specs.declared.options.Schedule.TheVariants.{Round, FairRound, Seed}
use Rattle.run_results.specs.declared.results.RunError.{RunError}
use Rattle.worker_driver.specs.declared.set_up.Driver.TheVariants.{ByThreads}
use Rattle.worker_driver.specs.SetUp.{driver_by}
use Rattle.tardis_c.specs.Answers.{CameTo, IsTold}

pub told : (IsReport : Bool → List ℕ → Type 0) (HasNone : RunError → Type 0) (came : Result Report RunError)
    (old new : List ℕ) (long number : ℕ) → IfOk came (λ report. IsReport report.all_done report.text.items) →
    IfErr came HasNone → CameTo came old new long number → IsTold IsReport HasNone old new long number
told IsReport HasNone (Ok report) old new long number is none came =
    inl (report.all_done, report.text.items, is, came.0, came.1)
told IsReport HasNone (Err e) old new long number is none came = inr (e, none, came.0, came.1)

pub follows_a_policy : (by_seed fair : Bool) (seed : ℕ) (fair_turns : Bool) →
    driver_by (cond by_seed Seed (cond fair FairRound Round)) seed ≢ ByThreads fair_turns
follows_a_policy true fair seed fair_turns = λ e. absurd cc
follows_a_policy false true seed fair_turns = λ e. absurd cc
follows_a_policy false false seed fair_turns = λ e. absurd cc
