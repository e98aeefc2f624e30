-- What the program answers.
use Rattle.std.specs.Prelude.{◌≡◌, ◌<◌, ◌⊎◌, ℕ, Bool, List, [], Option, Some, None, Result, Ok, Err, codes}
use Rattle.std.specs.Prelude.{IfErr, IfOk, string_bytes}
use Rattle.std.specs.Borrow.{Bor}
use Rattle.std.specs.FinMap.{FinMap, empty}
use Rattle.std.specs.Ordering.{nat_cmp}
use Rattle.command_line.specs.declared.words.Job.{Job}
use Rattle.command_line.specs.declared.words.Job.TheVariants.{Litmus as LitmusJob, Ends as EndsJob}
use Rattle.command_line.specs.declared.words.Job.TheVariants.{Trace as TraceJob, Stream as StreamJob, Check as CheckJob}
use Rattle.command_line.specs.declared.words.WordsError.{WordsError}
use Rattle.command_line.specs.declared.words.WordsError.TheVariants.{Refused as RefusedWords}
use Rattle.command_line.specs.declared.words.WordsError.TheVariants.{NoMemory as NoMemoryForWords}
use Rattle.byte_streams.specs.declared.device.DeviceError.{DeviceError}
use Rattle.physiological_order.specs.Order.{Memory, flat}
use Rattle.physiological_order.specs.declared.operation.Record.{Record}
use Rattle.report.specs.Bytes.{OfBytes}
use Rattle.report.specs.Answers.{FailuresAreCounted, IsCutOff, IsReported}
pub use Rattle.report.specs.Answers.{TextGoesOut}
use Rattle.report.specs.Ends.{HasNoEnds, IsEndsReport}
use Rattle.report.specs.Layouts.{layout_of}
use Rattle.report.specs.Litmus.{HasNoReport, IsLitmusReport}
use Rattle.run_options.specs.declared.options.CheckOptions.{CheckOptions}
use Rattle.run_options.specs.declared.options.EndsOptions.{EndsOptions}
use Rattle.run_options.specs.declared.options.LitmusOptions.{LitmusOptions}
use Rattle.run_options.specs.declared.options.StreamOptions.{StreamOptions}
use Rattle.run_options.specs.declared.options.TraceOptions.{TraceOptions}
use Rattle.run_results.specs.ErrorLine.{error_line}
use Rattle.run_results.specs.declared.results.Done.{Done}
use Rattle.run_results.specs.declared.results.RunError.{RunError}
use Rattle.run_results.specs.declared.results.RunError.TheVariants.{BadConfig, Read, Write}
use Rattle.programs.specs.declared.steps.Step.{Step}
use Rattle.report.specs.Openings.{HasNoOpening, IsOpened}
use Rattle.report.specs.Progress.{IsProgress, IsToldReport}
use Rattle.report.specs.Refusals.{IsRead}
use Rattle.report.specs.Reports.{HasNoTraceReport, IsTraceReport}
use Rattle.report.specs.Streams.{HasNoStream, IsBegun, IsStreamReport, IsStreamText}
use Rattle.report.specs.Verdicts.{HasNoVerdict, IsCheckReport, ReadsCounted, WritesCounted}
use Rattle.worker_driver.specs.SetUp.{FollowsPolicy}

-- 3 if the command line is refused, 1 if an allocation failed
abbrev pub words_status : WordsError → ℕ
words_status (RefusedWords text) = 3
words_status NoMemoryForWords = 1

-- the refusal's own text, or a line
abbrev pub words_text : WordsError → List ℕ
words_text (RefusedWords text) = string_bytes text
words_text NoMemoryForWords = codes "tardis: no memory\n"

-- the error text for words that are no text
abbrev pub bad_words : List ℕ
bad_words = codes "tardis: bad command line\n"

-- nothing for a report that was given, and otherwise the error's line
abbrev pub came_text : Result Done RunError → List ℕ
came_text (Ok done) = []
came_text (Err error) = error_line error

-- what files have, and how often reading them failed; what the output has, and how often writing failed
pub record Devices (F K : Type 0) : Type 0 where
  pub remaining : F → Option (List ℕ)
  pub unread : F → ℕ
  pub contents : K → Option (List ℕ)
  pub unwritten : K → ℕ

abbrev pub devices : {F K : Type 0} → (F → Option (List ℕ)) → (F → ℕ) → (K → Option (List ℕ)) → (K → ℕ) →
    Devices F K
devices remaining unread contents unwritten =
    record { remaining = remaining; unread = unread; contents = contents; unwritten = unwritten }

-- the report was written, or a beginning of it; on any other error nothing was
abbrev pub Came : {F K : Type 0} → Devices F K → (Bool → List ℕ → Type 0) → (RunError → Type 0) → K → K →
    Result Done RunError → Type 0
Came d IsReport HasNone old new (Ok done) = IsReported (IsReport done.all_done) (d.contents old) (d.contents new)
Came d IsReport HasNone old new (Err Read) = new ≡ old
Came d IsReport HasNone old new (Err Write) =
    (all_done : Bool) × IsCutOff (IsReport all_done) (d.contents old) (d.contents new)
Came d IsReport HasNone old new (Err error) = HasNone error × (new ≡ old)

-- the same of what has a report by its bytes
abbrev pub CameOf : {F K : Type 0} → Devices F K → (List ℕ → Bool → List ℕ → Type 0) →
    (List ℕ → RunError → Type 0) → Option (List ℕ) → K → K → Result Done RunError → Type 0
CameOf d IsReport HasNone known old new (Ok done) =
    OfBytes known (λ bytes. IsReported (IsReport bytes done.all_done) (d.contents old) (d.contents new))
CameOf d IsReport HasNone known old new (Err Read) = new ≡ old
CameOf d IsReport HasNone known old new (Err Write) =
    OfBytes known (λ bytes. (all_done : Bool) × IsCutOff (IsReport bytes all_done) (d.contents old) (d.contents new))
CameOf d IsReport HasNone known old new (Err error) = OfBytes known (λ bytes. HasNone bytes error) × (new ≡ old)

-- the report of a litmus test
abbrev pub RunsLitmus : {F K : Type 0} → Devices F K → LitmusOptions → Option (List ℕ) → K → K →
    Result Done RunError → Type 0
RunsLitmus d options known old new came =
    CameOf d (IsLitmusReport options) (HasNoReport options) known old new came

-- the list of its ends
abbrev pub ListsEndsOf : {F K : Type 0} → Devices F K → EndsOptions → Option (List ℕ) → K → K →
    Result Done RunError → Type 0
ListsEndsOf d options known old new came = CameOf d (IsEndsReport options) (HasNoEnds options) known old new came

-- the report of a trace, or its records
abbrev pub RunsTrace : {F K : Type 0} → Devices F K → TraceOptions → Option (List ℕ) → K → K →
    Result Done RunError → Type 0
RunsTrace d options known old new came =
    Came d (IsTraceReport options known) (HasNoTraceReport options known) old new came

-- the report of a trace that is run as it is read, or its records. On an error what went out before it stays: nothing,
-- or records of the run's first turns. A machine that can't be had is told before that
abbrev pub RunsStream : {F K : Type 0} → Devices F K → StreamOptions → Option (List ℕ) → K → K →
    Result Done RunError → Type 0
RunsStream d options known old new (Ok done) =
    IsReported (IsStreamReport options known done.all_done) (d.contents old) (d.contents new)
RunsStream d options known old new (Err Read) = IsReported (IsBegun options known) (d.contents old) (d.contents new)
RunsStream d options known old new (Err Write) = IsCutOff (IsStreamText options known) (d.contents old) (d.contents new)
RunsStream d options known old new (Err BadConfig) = HasNoStream options known BadConfig × (new ≡ old)
RunsStream d options known old new (Err error) =
    HasNoStream options known error × IsReported (IsBegun options known) (d.contents old) (d.contents new)

-- What was told of the run on standard error meanwhile: nothing, if that isn't asked for or the machine can't be had.
-- If there is a report, the lines are of its first records.
abbrev pub TellsRun : {F K E : Type 0} → Devices F K → Devices F E → StreamOptions → E → E → Option (List ℕ) → K → K →
    Result Done RunError → Type 0
TellsRun d e options errors errors' known old new came =
    ((records : List Record) × IsProgress options known records (e.contents errors) (e.contents errors')
    (e.unwritten errors) (e.unwritten errors'))
    × IfOk came (λ done. IsReported (IsToldReport options known done.all_done (e.contents errors) (e.contents errors')
    (e.unwritten errors) (e.unwritten errors')) (d.contents old) (d.contents new))
    × (options.progress ≡ None → errors' ≡ errors) × (came ≡ Err BadConfig → errors' ≡ errors)

abbrev pub RunsAndTells : {F K E : Type 0} → Devices F K → Devices F E → StreamOptions → E → E → Option (List ℕ) →
    K → K → Result Done RunError → Type 0
RunsAndTells d e options errors errors' known old new came =
    RunsStream d options known old new came × TellsRun d e options errors errors' known old new came

-- the job was done on a file, which it left as another: failures are reported exactly as they were counted
abbrev pub RunsOn : {F K : Type 0} → Devices F K → (Option (List ℕ) → K → K → Result Done RunError → Type 0) →
    (file left : F) → K → K → Result Done RunError → Type 0
RunsOn d Runs file left old new came =
    FailuresAreCounted came (d.unread file) (d.unread left) (d.unwritten old) (d.unwritten new)
    × Runs (d.remaining file) old new came

-- it was done on the file that was opened; a file that can't be opened is reported as one that can't be read
abbrev pub OnFile : {F K : Type 0} → Devices F K → (Option (List ℕ) → K → K → Result Done RunError → Type 0) →
    Result F DeviceError → K → K → Result Done RunError → Type 0
OnFile {F} d Runs (Ok file) old new came = (left : F) × RunsOn d Runs file left old new came
OnFile d Runs (Err error) old new came = (came ≡ Err Read) × (new ≡ old)

-- the records of the second file were checked against the trace of the first over a memory; they were read only after a
-- trace that was accepted, and not at all if reading the trace failed
abbrev pub ChecksOn : {F K : Type 0} → Devices F K → Memory → CheckOptions → (trace records trace' records' : F) →
    K → K → Result Done RunError → Type 0
ChecksOn d opening options trace records trace' records' old new came =
    Came d (IsCheckReport opening options.complete (layout_of options.json) (d.remaining trace) (d.remaining records))
    (HasNoVerdict (d.remaining trace) (d.remaining records)) old new came
    × ((records' ≡ records) ⊎ ((lanes : List (List Step)) × IsRead (d.remaining trace) lanes))
    × (d.unread trace < d.unread trace' → records' ≡ records)
    × ReadsCounted came (d.unread trace) (d.unread trace') (d.unread records) (d.unread records')
    × WritesCounted came (d.unwritten old) (d.unwritten new)

-- the same of any state in which that left the files
abbrev pub Checks : {F K : Type 0} → Devices F K → Memory → CheckOptions → (trace records : F) → K → K →
    Result Done RunError → Type 0
Checks {F} d opening options trace records old new came =
    (trace' records' : F) × ChecksOn d opening options trace records trace' records' old new came

-- the opening was read first: the check was over the memory that it gives; or it was refused, and nothing else was done
abbrev pub ChecksOver : {F K : Type 0} → Devices F K → CheckOptions → (opening trace records : F) → K → K →
    Result Done RunError → Type 0
ChecksOver {F} d options opening trace records old new came = (left : F)
    × (((words : FinMap nat_cmp ℕ) × IsOpened (d.remaining opening) words × (d.unread left ≡ d.unread opening)
    × Checks d (flat words) options trace records old new came)
    ⊎ ((e : RunError) × HasNoOpening (d.remaining opening) (d.unread opening) (d.unread left) e
    × (came ≡ Err e) × (new ≡ old)))

-- no opening was named, and memory opens with zeros; or its file could be opened; or it couldn't, which is reported as
-- a failed read, and nothing was written
abbrev pub OnOpening : {F K : Type 0} → Devices F K → CheckOptions → Option (Result F DeviceError) →
    (trace records : F) → K → K → Result Done RunError → Type 0
OnOpening d options None trace records old new came = Checks d (flat empty) options trace records old new came
OnOpening d options (Some (Ok opening)) trace records old new came =
    ChecksOver d options opening trace records old new came
OnOpening d options (Some (Err error)) trace records old new came = (came ≡ Err Read) × (new ≡ old)

-- the same of the other two files
abbrev pub OnFiles : {F K : Type 0} → Devices F K → CheckOptions → (opening : Option (Result F DeviceError)) →
    (trace records : Result F DeviceError) → K → K → Result Done RunError → Type 0
OnFiles d options opening (Ok trace) (Ok records) old new came =
    OnOpening d options opening trace records old new came
OnFiles d options opening trace records old new came = (came ≡ Err Read) × (new ≡ old)

-- a file that is named was opened, and none if none is
abbrev pub OpensNamed : {F : Type 0} → (List ℕ → Result F DeviceError → Type 0) → Option (Bor (List ℕ)) →
    Option (Result F DeviceError) → Type 0
OpensNamed opens None opened = opened ≡ None
OpensNamed {F} opens (Some name) opened = (file : Result F DeviceError) × opens name.now file × (opened ≡ Some file)

-- no threads drive a trace that is run as it is read
abbrev pub CanBeDone : Job → Type 0
CanBeDone (StreamJob options name) = FollowsPolicy options.run
CanBeDone job = Unit {0}

-- The job was done on the files that have its names, given what opening each name may answer. It told nothing on
-- standard error meanwhile, but of a trace that is run as it is read, once its file was opened.
abbrev pub Does : {F K E : Type 0} → Devices F K → Devices F E → (List ℕ → Result F DeviceError → Type 0) → Job →
    K → K → E → E → Result Done RunError → Type 0
Does {F} d e opens (LitmusJob options name) old new errors errors' came = (opened : Result F DeviceError)
    × opens name.now opened × OnFile d (RunsLitmus d options) opened old new came × (errors' ≡ errors)
Does {F} d e opens (EndsJob options name) old new errors errors' came = (opened : Result F DeviceError)
    × opens name.now opened × OnFile d (ListsEndsOf d options) opened old new came × (errors' ≡ errors)
Does {F} d e opens (TraceJob options name) old new errors errors' came = (opened : Result F DeviceError)
    × opens name.now opened × OnFile d (RunsTrace d options) opened old new came × (errors' ≡ errors)
Does {F} d e opens (StreamJob options name) old new errors errors' came = (opened : Result F DeviceError)
    × opens name.now opened × OnFile d (RunsAndTells d e options errors errors') opened old new came
    × IfErr opened (λ error. errors' ≡ errors)
Does {F} d e opens (CheckJob options opening trace records) old new errors errors' came =
    (first : Option (Result F DeviceError)) × OpensNamed opens opening first × (opened opened' : Result F DeviceError)
    × opens trace.now opened × opens records.now opened' × OnFiles d options first opened opened' old new came
    × (errors' ≡ errors)
