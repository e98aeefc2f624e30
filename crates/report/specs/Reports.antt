-- The report on the text of a trace, and why a text has none.
use Rattle.std.specs.Prelude.{◌≡◌, ◌⊎◌, ◌≤◌, ℕ, Bool, true, false, ◌&&◌, not, List, length, Option, Some, None}
use Rattle.machine_table.specs.declared.config.Config.{Config}
use Rattle.machine_table.specs.Machine.{Machine}
use Rattle.machine_table.specs.SetUp.{is_good}
use Rattle.event_counts.specs.Counting.{Counter, counter_events, no_counter}
use Rattle.physiological_order.specs.declared.operation.Record.{Record}
use Rattle.worker_driver.specs.SetUp.{config_of, driver_of, limit_of}
use Rattle.worker_driver.specs.declared.set_up.Driver.{Driver}
use Rattle.worker_driver.specs.declared.set_up.Driver.TheVariants.{ByPolicy, ByThreads}
use Rattle.programs.specs.declared.ends.End.{End}
use Rattle.report_lines.specs.declared.layout.Layout.{Layout}
use Rattle.run_options.specs.declared.options.TraceOptions.{TraceOptions}
use Rattle.run_results.specs.declared.results.RunError.{RunError}
use Rattle.run_results.specs.declared.results.RunError.TheVariants.{NoMemory, Trace, BadConfig}
use Rattle.trace_lines.specs.declared.errors.TraceError.{TraceError}
use Rattle.programs.specs.declared.steps.Step.{Step}
use Rattle.trace_reader.specs.declared.limits.TheConstants.{MOST_LINES}
use Rattle.trace_reader.specs.Causes.{TraceFault}
use Rattle.trace_reader.specs.Grammar.{AreRecords, IsTrace}
use Rattle.text_lines.specs.Lines.{lines_of}
use Rattle.trace_reader.specs.Reading.{steps_in, steps_read}
use Rattle.report.specs.Layouts.{layout_of}
use Rattle.report.specs.Refusals.{IsFault, IsRead}
use Rattle.trace_reader.specs.Outcomes.{WantsMemory}
use Rattle.trace_reader.specs.Steps.{trace_cores}
use Rattle.report.specs.Runs.{IsTraceRun, IsWatched, is_all_done, run_text}

-- the text has a line for each record, and if there are no more records than a text may have, it is the text of the
-- records
abbrev pub TellsRecords : List ℕ → List Record → Type 0
TellsRecords text records =
    (length (lines_of text) ≡ length records) × (length records ≤ MOST_LINES → AreRecords text records)

-- the text reports a run with this end, machine and counter, and says whether that ended all done; a text of the
-- records alone reads back as these records
pub record TellsOf (records : Bool) (layout : Layout) (lanes : List (List Step)) (end : End) (machine : Machine)
    (counter : Option Counter) (all_done : Bool) (text : List ℕ) : Type 0 where
  pub text_is : text ≡ run_text records layout lanes end machine counter
  pub read_back : records ≡ true → TellsRecords text machine.records
  pub done : all_done ≡ is_all_done end

-- The counter of a run, if counts are asked for of one by a policy: it had counted nothing as the machine opened, and
-- was shown the very events that lead to this machine. Else there is none.
abbrev pub IsCounted : Bool → (every : Option ℕ) → Driver → ℕ → Config → List (List Step) → End → Machine →
    Option Counter → Type 0
IsCounted true every (ByPolicy policy) limit config lanes end machine counter = (k : Counter) × (counter ≡ Some k)
    × IsWatched counter_events (no_counter config.cores config.banks every) policy limit config lanes end machine k
IsCounted true every (ByThreads fair) limit config lanes end machine counter = counter ≡ None
IsCounted false every driver limit config lanes end machine counter = counter ≡ None

-- a trace's counts are asked for, and not its records
abbrev pub is_counted : TraceOptions → Bool
is_counted options = options.counts && not options.records

-- it reports a run of the trace on a good machine; a counter asks for memory, so its run may end for want of it before
-- any event
pub record TellsTraceRun (options : TraceOptions) (lanes : List (List Step)) (all_done : Bool) (text : List ℕ)
    : Type 0 where
  pub good : is_good (config_of options.run.machine (trace_cores lanes)) ≡ true
  pub end : End
  pub machine : Machine
  pub run : IsTraceRun (is_counted options) (driver_of options.run) (limit_of options.run)
      (config_of options.run.machine (trace_cores lanes)) lanes end machine
  pub counter : Option Counter
  pub counted : IsCounted (is_counted options) options.every (driver_of options.run) (limit_of options.run)
      (config_of options.run.machine (trace_cores lanes)) lanes end machine counter
  pub told : TellsOf options.records (layout_of options.json) lanes end machine counter all_done text

-- it reports a run of the trace that the source had
abbrev pub IsTraceReport : TraceOptions → Option (List ℕ) → Bool → List ℕ → Type 0
IsTraceReport options known all_done text =
    (lanes : List (List Step)) × IsRead known lanes × TellsTraceRun options lanes all_done text

-- the fault of a text that is no trace
abbrev pub IsTraceFault : Option (List ℕ) → TraceError → Type 0
IsTraceFault known e = IsFault IsTrace TraceFault steps_read known e

-- why a trace that was read has no report: BadConfig only if the machine isn't good, and NoMemory only if it is
abbrev pub HasNoRun : TraceOptions → List (List Step) → RunError → Type 0
HasNoRun options lanes NoMemory = is_good (config_of options.run.machine (trace_cores lanes)) ≡ true
HasNoRun options lanes BadConfig = is_good (config_of options.run.machine (trace_cores lanes)) ≡ false
HasNoRun options lanes e = ⊥

-- why there is no report on what the source had; NoMemory only if reading it allocates, or the machine is good
abbrev pub HasNoTraceReport : TraceOptions → Option (List ℕ) → RunError → Type 0
HasNoTraceReport options known (Trace e) = IsTraceFault known e
HasNoTraceReport options known BadConfig = (lanes : List (List Step)) × IsRead known lanes
    × (is_good (config_of options.run.machine (trace_cores lanes)) ≡ false)
HasNoTraceReport options known NoMemory =
    WantsMemory steps_in known ⊎ ((lanes : List (List Step)) × IsRead known lanes
    × (is_good (config_of options.run.machine (trace_cores lanes)) ≡ true))
HasNoTraceReport options known e = ⊥
