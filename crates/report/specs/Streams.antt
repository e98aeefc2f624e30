-- The report on a trace that is run as it is read, what goes out before it ends, and why there is no report.
use Rattle.std.specs.Prelude.{◌≡◌, ◌≤◌, ◌⊎◌, ℕ, Bool, true, false, List, [], ◌∷◌, ◌++◌, length, Option, Some, None}
use Rattle.std.specs.Prelude.{IfSome}
use Rattle.machine_table.specs.declared.config.Config.{Config}
use Rattle.machine_table.specs.Machine.{Machine}
use Rattle.machine_table.specs.SetUp.{is_good}
use Rattle.physiological_order.specs.declared.verdict.Verdict.TheVariants.{Legal as LegalVerdict}
use Rattle.programs.specs.declared.ends.End.{End}
use Rattle.programs.specs.declared.steps.Step.{Step}
use Rattle.report_lines.specs.declared.layout.Layout.{Layout}
use Rattle.report_lines.specs.Layouts.{closing}
use Rattle.run_options.specs.declared.options.StreamOptions.{StreamOptions}
use Rattle.run_results.specs.declared.results.RunError.{RunError}
use Rattle.run_results.specs.declared.results.RunError.TheVariants.{BadConfig, NoMemory, Trace}
use Rattle.trace_lines.specs.declared.errors.Kind.TheVariants.{BadCore}
use Rattle.trace_lines.specs.declared.errors.TraceError.{TraceError}
use Rattle.trace_reader.specs.Filling.{unnumbered}
use Rattle.trace_reader.specs.Outcomes.{IsOfLine}
use Rattle.trace_reader.specs.Reading.{behind}
use Rattle.trace_reader.specs.Steps.{IsByCore, cores_of, trace_cores}
use Rattle.trace_reader.specs.Streams.{StepsTold, steps_told}
use Rattle.trace_texts.specs.Records.{records_text}
use Rattle.trace_texts.specs.Reports.{trace_text}
use Rattle.worker_driver.specs.SetUp.{config_of, driver_of, limit_of}
use Rattle.report.specs.Layouts.{layout_of}
use Rattle.report.specs.Reports.{TellsRecords}
use Rattle.report.specs.Runs.{IsTraceRun, is_all_done, trace_end_of, whole_report}

-- The steps are all that the text tells, which has no fault, if its bytes are known; and they are the first that it
-- tells. Of a source whose bytes aren't known these say nothing.
abbrev pub IsReadWhole : Option (List ℕ) → List (ℕ × (ℕ × Step)) → Type 0
IsReadWhole known taken = IfSome known (λ bytes. steps_told bytes ≡ (taken, None))

abbrev pub IsReadSoFar : Option (List ℕ) → List (ℕ × (ℕ × Step)) → Type 0
IsReadSoFar known taken = IfSome known (λ bytes. (later : StepsTold) × (steps_told bytes ≡ behind taken later))

-- the machine that the options ask for
abbrev pub stream_config : StreamOptions → Config
stream_config options = config_of options.run.machine options.cores

-- a run of these steps, by core, of at most so many turns, as the options say: each step is of a core that the machine
-- has
pub record IsStreamRun (options : StreamOptions) (turns : ℕ) (taken : List (ℕ × (ℕ × Step))) (end : End)
    (machine : Machine) : Type 0 where
  pub lanes : List (List Step)
  pub by_core : IsByCore (unnumbered taken) lanes
  pub few : length lanes ≤ options.cores
  pub run : IsTraceRun true (driver_of options.run) turns (stream_config options) lanes end machine

-- the text of the records alone, or the report that `run_trace` writes, with the trace's words or without them
abbrev pub stream_text : (records words : Bool) → Layout → List (List Step) → End → Machine → List ℕ
stream_text true words layout lanes end m = records_text m.records
stream_text false true layout lanes end m = whole_report layout lanes end m None
stream_text false false layout lanes end m =
    trace_text layout (trace_cores lanes) (trace_end_of lanes end m) LegalVerdict m.records [] ++ closing layout

-- the text reports a run of these steps on a good machine, and says whether it ended all done; a text of the records
-- alone reads back as these records
pub record TellsStream (options : StreamOptions) (taken : List (ℕ × (ℕ × Step))) (all_done : Bool) (text : List ℕ)
    : Type 0 where
  pub good : is_good (stream_config options) ≡ true
  pub end : End
  pub machine : Machine
  pub ran : IsStreamRun options (limit_of options.run) taken end machine
  pub text_is : text ≡ stream_text options.records options.words (layout_of options.json) ran.lanes end machine
  pub read_back : options.records ≡ true → TellsRecords text machine.records
  pub done : all_done ≡ is_all_done end

-- it reports a run of all the steps that the source had
abbrev pub IsStreamReport : StreamOptions → Option (List ℕ) → Bool → List ℕ → Type 0
IsStreamReport options known all_done text =
    (taken : List (ℕ × (ℕ × Step))) × IsReadWhole known taken × TellsStream options taken all_done text

-- a run of the first steps that the source had, of no more turns than the options allow, leads to this machine
pub record IsRunSoFar (options : StreamOptions) (known : Option (List ℕ)) (machine : Machine) : Type 0 where
  pub taken : List (ℕ × (ℕ × Step))
  pub first : IsReadSoFar known taken
  pub turns : ℕ
  pub within : turns ≤ limit_of options.run
  pub end : End
  pub ran : IsStreamRun options turns taken end machine

-- the text has the records of such a run
abbrev pub BeginsRecords : StreamOptions → Option (List ℕ) → List ℕ → Type 0
BeginsRecords options known text =
    (machine : Machine) × IsRunSoFar options known machine × (text ≡ records_text machine.records)

-- what goes out before the run has ended: nothing, or such records if they are asked for
abbrev pub IsBegun : StreamOptions → Option (List ℕ) → List ℕ → Type 0
IsBegun options known text = (text ≡ []) ⊎ ((options.records ≡ true) × BeginsRecords options known text)

-- what may go out in part if the sink fails
abbrev pub IsStreamText : StreamOptions → Option (List ℕ) → List ℕ → Type 0
IsStreamText options known text =
    IsBegun options known text ⊎ ((all_done : Bool) × IsStreamReport options known all_done text)

-- the text has this fault, and each step before it is of one of so many cores
abbrev pub HasFault : (cores : ℕ) → StepsTold → TraceError → Type 0
HasFault cores told e = (told.1 ≡ Some e) × (cores_of (unnumbered told.0) ≤ cores)

-- the line with this number has the text's first step of a core past so many
abbrev pub IsPastCores : (cores : ℕ) → StepsTold → (line : ℕ) → Type 0
IsPastCores cores told line = (before later : List (ℕ × (ℕ × Step))) × (step : ℕ × Step)
    × (told.0 ≡ before ++ (line, step) ∷ later) × (cores_of (unnumbered before) ≤ cores) × (cores ≤ step.0)

-- the first fault of a text whose steps are to be of so many cores, if its bytes are known
abbrev pub IsStreamFault : (cores : ℕ) → Option (List ℕ) → TraceError → Type 0
IsStreamFault cores known e = (IsOfLine e × IfSome known (λ bytes. HasFault cores (steps_told bytes) e))
    ⊎ ((e.kind ≡ BadCore) × IfSome known (λ bytes. IsPastCores cores (steps_told bytes) e.line))

-- why there is no report: BadConfig only if the machine isn't good, and the others only if it is
abbrev pub HasNoStream : StreamOptions → Option (List ℕ) → RunError → Type 0
HasNoStream options known BadConfig = is_good (stream_config options) ≡ false
HasNoStream options known NoMemory = is_good (stream_config options) ≡ true
HasNoStream options known (Trace e) =
    (is_good (stream_config options) ≡ true) × IsStreamFault options.cores known e
HasNoStream options known e = ⊥
