use Rattle.std.proofs.Common.{ℕ, Bool, true, false, List, Option, None, refl}
use Rattle.std.proofs.lemmas.Result.{IfOk-weaker}
use Rattle.machine_table.specs.declared.config.Config.{Config}
use Rattle.machine_table.specs.Machine.{Machine}
use Rattle.programs.specs.declared.ends.End.{End}
use Rattle.programs.specs.declared.steps.Step.{Step}
use Rattle.thread_driver.specs.ThreadRuns.{machine_of}
use Rattle.worker_driver.specs.declared.set_up.Driver.TheVariants.{ByThreads}
use Rattle.report.specs.Reports.{IsCounted, is_counted}
use Rattle.report.proofs.Told.{told_run}
use Rattle.report.proofs.reports.report_by_threads.Goals as goal

-- a run by threads has no counter
uncounted : (b fair : Bool) (every : Option ℕ) (limit : ℕ) (config : Config) (lanes : List (List Step)) (end : End)
    (m : Machine) → IsCounted b every (ByThreads fair) limit config lanes end m None
uncounted false fair every limit config lanes end m = refl
uncounted true fair every limit config lanes end m = refl

pub report_on_trace_run-requires : goal.report_on_trace_run-requires
report_on_trace_run-requires g c =
    let is = c.in_ok-ran.ensures in
    let run = is.1 false in
    record { shows = (machine_of c.in_ok-ran.ran.machine is.0, (is.0, refl), run.complete, run.legal_in_trace) }

pub returns : goal.returns
returns g c =
    let options = c.args.options.now in
    let lanes = c.args.trace.now in
    let ran = c.in_ok-ran.ran in
    let parts = c.in_ok-ran.ensures.0 in
    let m = machine_of ran.machine parts in
    let limit = c.limit_of-limit.result in
    IfOk-weaker c.report_on_trace_run.result _ _ (λ report told.
    told_run options lanes c.args.config (ByThreads c.args.fair) limit ran.end m (is_counted options) None
    c.requires.good c.requires.config c.requires.threads c.limit_of-limit.ensures.limit refl
    (c.in_ok-ran.ensures.1 (is_counted options))
    (uncounted (is_counted options) c.args.fair options.every limit c.args.config lanes ran.end m) report
    (told m (parts, refl))) c.report_on_trace_run.ensures
