-- A run of a trace that is read as the run goes, between two of its pieces: what it has read, made and written.
use Rattle.std.specs.Prelude.{◌≡◌, ◌<◌, ℕ, max, Bool, true, false, ◌&&◌, not, List, [], ◌++◌, Option, Some, None}
use Rattle.std.specs.Prelude.{IfSome, length, nat_lt}
use Rattle.byte_streams.specs.Device.{AtEnd, Grows}
use Rattle.byte_streams.specs.Whole.{GrowsByFront}
use Rattle.machine_table.specs.Machine.{Machine}
use Rattle.physiological_order.specs.declared.operation.Record.{Record}
use Rattle.physiological_order.specs.declared.verdict.Verdict.TheVariants.{Legal as LegalVerdict}
use Rattle.programs.specs.declared.steps.Step.{Step}
use Rattle.report_lines.specs.declared.layout.Layout.{Layout}
use Rattle.report_lines.specs.Layouts.{closing}
use Rattle.run_options.specs.declared.options.StreamOptions.{StreamOptions}
use Rattle.run_results.specs.declared.results.RunError.{RunError}
use Rattle.run_results.specs.declared.results.RunError.TheVariants.{NoMemory, Read, Trace, Write}
use Rattle.streamed_runs.specs.StreamStates.{HasEnded, IsAllRead, IsGoing, StreamState}
use Rattle.streamed_runs.specs.StreamStates.{issued_below, values_in}
use Rattle.trace_lines.specs.declared.errors.Kind.TheVariants.{BadCore}
use Rattle.trace_reader.specs.declared.read_ahead.AheadError.{AheadError}
use Rattle.trace_reader.specs.declared.read_ahead.AheadError.TheVariants as ahead
use Rattle.trace_reader.specs.Streams.{StepsTold, Yields, coming, steps_told}
use Rattle.trace_texts.specs.Records.{AreRanged, records_text}
use Rattle.trace_texts.specs.Reports.{told_text}
use Rattle.worker_driver.specs.SetUp.{driver_of, limit_of}
use Rattle.worker_driver.specs.declared.set_up.Driver.TheVariants.{ByPolicy}
use Rattle.report.specs.Answers.{IsCutOff, IsReported}
use Rattle.report.specs.Progress.{AreTold, lines_told, progress_line, times_passed, times_told}
use Rattle.report.specs.Refusals.{refusal}
use Rattle.report.specs.Streams.{IsBegun, IsReadWhole, IsStreamFault, IsStreamText, stream_config}

-- what a text tells, if its bytes are known
abbrev pub text_told : Option (List ℕ) → Option StepsTold
text_told None = None
text_told (Some bytes) = Some (steps_told bytes)

-- such a run of a text with these bytes, as the options ask for it, and what its source still has
pub record IsRunning (options : StreamOptions) (known : Option (List ℕ)) (run : StreamState) (now : Option (List ℕ))
    : Type 0 where
  pub taken : List (ℕ × (ℕ × Step))
  pub yields : Yields (text_told known) (coming run.ahead.stream now) taken
  pub going : IsGoing taken run
  pub all_read : run.at_end ≡ true → IsAllRead known now run.ahead.stream
  pub config : run.machine.config ≡ stream_config options
  pub driver : driver_of options.run ≡ ByPolicy run.pace.policy
  pub limit : run.limit ≡ limit_of options.run
  pub names : run.ahead.names ≡ (options.words && not options.records)

-- such a run that has ended, once its text was read to its end
pub record HasRun (options : StreamOptions) (known : Option (List ℕ)) (run : StreamState) (now : Option (List ℕ))
    : Type 0 where
  pub taken : List (ℕ × (ℕ × Step))
  pub read : IsReadWhole known taken
  pub ended : HasEnded taken run
  pub at_end : IfSome known (λ bytes. AtEnd now)
  pub config : run.machine.config ≡ stream_config options
  pub driver : driver_of options.run ≡ ByPolicy run.pace.policy
  pub limit : run.limit ≡ limit_of options.run
  pub names : run.ahead.names ≡ (options.words && not options.records)

-- what is written of records, if they are asked for
abbrev pub text_if : Bool → List Record → List ℕ
text_if true records = records_text records
text_if false records = []

-- that was written of these records, and their numbers are in range
pub record HasWritten (asked : Bool) (old new : Option (List ℕ)) (records : List Record) : Type 0 where
  pub grows : Grows old new (text_if asked records)
  pub ranged : asked ≡ true → AreRanged records

-- a text went out, if no write has failed; else a beginning of it
abbrev pub HasGoneOut : (goes : Bool) → (old new : Option (List ℕ)) → (before after : ℕ) → List ℕ → Type 0
HasGoneOut true old new before after text = (after ≡ before) × Grows old new text
HasGoneOut false old new before after text = (before < after) × GrowsByFront old new text

-- the run's progress was told so far, of which these are the records
pub record IsTelling (options : StreamOptions) (known : Option (List ℕ)) (records : List Record) (goes : Bool)
    (old new : Option (List ℕ)) (before after : ℕ) : Type 0 where
  pub told : List Machine
  pub are : AreTold options known records told
  pub all : times_told options.progress told ≡ times_passed options.progress (length records)
  pub out : HasGoneOut goes old new before after (lines_told told)

-- whether a line is due once so many operations are completed
abbrev pub is_due : Option ℕ → (before after : ℕ) → Bool
is_due every before after = nat_lt (times_passed every before) (times_passed every after)

-- the line of a run, where it is due
abbrev pub line_if : Bool → StreamState → List ℕ
line_if true s = progress_line s.kinds.completed s.stale s.machine
line_if false s = []

-- a step of a core that the machine hasn't is the fault of its line
abbrev pub ahead_refusal : AheadError → RunError
ahead_refusal (ahead.Text e) = refusal e
ahead_refusal (ahead.NoQueue line) = Trace (record { line = line; kind = BadCore })
ahead_refusal ahead.NoMemory = NoMemory

-- why a text didn't go out: no memory for it; or the sink failed, which is counted, and a beginning went out
abbrev pub IsNotWritten : Option (List ℕ) → Option (List ℕ) → (before after : ℕ) → List ℕ → RunError → Type 0
IsNotWritten old new before after text NoMemory = (new ≡ old) × (after ≡ before)
IsNotWritten old new before after text Write = GrowsByFront old new text × (before < after)
IsNotWritten old new before after text e = ⊥

-- Why a run that was good has no whole report. Records of its first turns are out, or a beginning of what was to go out
-- if the sink failed; and no other call failed than the answer reports.
abbrev pub IsStopped : StreamOptions → Option (List ℕ) → Option (List ℕ) → Option (List ℕ) →
    (read read' written written' : ℕ) → RunError → Type 0
IsStopped options known old new read read' written written' Read =
    (read < read') × (written' ≡ written) × IsReported (IsBegun options known) old new
IsStopped options known old new read read' written written' NoMemory =
    (read' ≡ read) × (written' ≡ written) × IsReported (IsBegun options known) old new
IsStopped options known old new read read' written written' (Trace e) =
    (read' ≡ read) × (written' ≡ written) × IsReported (IsBegun options known) old new
    × IsStreamFault options.cores known e
IsStopped options known old new read read' written written' Write =
    (read' ≡ read) × (written < written') × IsCutOff (IsStreamText options known) old new
IsStopped options known old new read read' written written' e = ⊥

-- the report on a run that has ended
abbrev pub ended_text : Layout → StreamState → List ℕ
ended_text layout s =
    told_text layout (max 1 s.ahead.met) (record {
      issued = issued_below s.machine s.machine.config.cores;
      end = s.end;
      counts = s.machine.mail.counts;
      stale = s.stale;
    }) LegalVerdict s.kinds (values_in s.machine s.ahead.words) ++ closing layout

-- what is written of it behind its records, if these are asked for, or else at all
abbrev pub text_unless : Bool → Layout → StreamState → List ℕ
text_unless true layout s = []
text_unless false layout s = ended_text layout s
