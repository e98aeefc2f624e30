-- What is told of a run of a trace, with its counter or none.
use Rattle.std.proofs.Common.{◌≡◌, ℕ, Bool, true, List, Option, sym, subst}
use Rattle.event_counts.specs.Counting.{Counter}
use Rattle.machine_table.specs.declared.config.Config.{Config}
use Rattle.machine_table.specs.Machine.{Machine}
use Rattle.machine_table.specs.SetUp.{is_good}
use Rattle.programs.specs.declared.ends.End.{End}
use Rattle.programs.specs.declared.steps.Step.{Step}
use Rattle.report.specs.declared.outputs.Report.{Report}
use Rattle.run_options.specs.declared.options.TraceOptions.{TraceOptions}
use Rattle.trace_reader.specs.Steps.{trace_cores}
use Rattle.worker_driver.specs.SetUp.{config_of, driver_of, limit_of}
use Rattle.worker_driver.specs.declared.set_up.Driver.{Driver}
use Rattle.report.specs.Layouts.{layout_of}
use Rattle.report.specs.Reports.{IsCounted, TellsOf, TellsTraceRun, is_counted}
use Rattle.report.specs.Runs.{IsTraceRun}

-- on a good machine, by the driver and the limit of the options
pub told_run : (options : TraceOptions) (lanes : List (List Step)) (config : Config) (driver : Driver) (limit : ℕ)
    (end : End) (m : Machine) (asks : Bool) (counter : Option Counter) → is_good config ≡ true →
    config ≡ config_of options.run.machine (trace_cores lanes) → driver_of options.run ≡ driver →
    limit ≡ limit_of options.run → is_counted options ≡ asks → IsTraceRun asks driver limit config lanes end m →
    IsCounted asks options.every driver limit config lanes end m counter → (report : Report) →
    TellsOf options.records (layout_of options.json) lanes end m counter report.all_done report.text.items →
    TellsTraceRun options lanes report.all_done report.text.items
told_run options lanes config driver limit end m asks counter good set_up driven limited asked run counted report told =
    let Both : Bool → Driver → ℕ → Config → Type 0 = λ b d n k. IsTraceRun b d n k lanes end m
    × IsCounted b options.every d n k lanes end m counter in
    let there = config_of options.run.machine (trace_cores lanes) in
    let both : Both (is_counted options) (driver_of options.run) (limit_of options.run) there =
    subst (λ b. Both b (driver_of options.run) (limit_of options.run) there) (sym asked)
    (subst (λ d. Both asks d (limit_of options.run) there) (sym driven)
    (subst (λ n. Both asks driver n there) limited (subst (Both asks driver limit) set_up (run, counted)))) in record {
      good = subst (λ (k : Config). is_good k ≡ true) set_up good;
      end = end;
      machine = m;
      run = both.0;
      counter = counter;
      counted = both.1;
      told = told;
    }
