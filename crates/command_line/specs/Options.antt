-- What the options say in the matches.
use Rattle.std.specs.Prelude.{◌≡◌, ℕ, ◌≤◌, Bool, true, false, ◌&&◌, ◌||◌, List, [], Option, Some, None, codes}
use Rattle.std.specs.Prelude.{is_some, not, unwrap_or}
use Rattle.command_line.specs.declared.options.Asked.{Asked}
use Rattle.std.specs.Str.Parse.{IsNumeral, digits_value, without_leading_plus}
use Rattle.clap.specs.Words.{Row, Text, first_of, one_of}
use Rattle.run_options.specs.declared.options.TheConstants.EndsOptions.{DEFAULT as ends_default}
use Rattle.run_options.specs.declared.options.TheConstants.LitmusOptions.{DEFAULT as litmus_default}
use Rattle.run_options.specs.declared.options.TheConstants.MachineOptions.{DEFAULT as machine_default}
use Rattle.run_options.specs.declared.options.TheConstants.RunOptions.{DEFAULT as run_default}
use Rattle.run_options.specs.declared.options.TheConstants.StreamOptions.{DEFAULT as stream_default}
use Rattle.run_options.specs.declared.options.CheckOptions.{CheckOptions}
use Rattle.run_options.specs.declared.options.EndsOptions.{EndsOptions}
use Rattle.run_options.specs.declared.options.LitmusOptions.{LitmusOptions}
use Rattle.run_options.specs.declared.options.MachineOptions.{MachineOptions}
use Rattle.run_options.specs.declared.options.RunOptions.{RunOptions}
use Rattle.run_options.specs.declared.options.Schedule.{Schedule}
use Rattle.run_options.specs.declared.options.Schedule.TheVariants.{Round, FairRound, Seed, Threads, FairThreads}
use Rattle.run_options.specs.declared.options.StreamOptions.{StreamOptions}
use Rattle.run_options.specs.declared.options.TraceOptions.{TraceOptions}

-- the text is this number in decimal, with a plus before it or without one
abbrev pub Writes : Text → ℕ → Type 0
Writes text n = IsNumeral 10 (without_leading_plus text) × (digits_value 10 (without_leading_plus text) ≡ n)

-- the text is such a number from least to most
abbrev pub WritesWithin : Text → ℕ → ℕ → ℕ → Type 0
WritesWithin text least most n = Writes text n × (least ≤ n) × (n ≤ most)

-- the number that a text writes from least to most; none if there is no text or it writes no such number
abbrev pub IsNumberIn : Option Text → ℕ → ℕ → Option ℕ → Type 0
IsNumberIn text least most (Some n) = (t : Text) × (text ≡ Some t) × WritesWithin t least most n
IsNumberIn text least most None = (t : Text) (n : ℕ) → text ≡ Some t → WritesWithin t least most n → ⊥

-- the same, with another one for none
abbrev pub IsNumberOf : Option Text → ℕ → ℕ → ℕ → ℕ → Type 0
IsNumberOf text least most other value =
    (n : Option ℕ) × IsNumberIn text least most n × (value ≡ unwrap_or n other)

-- the option has the number that its text writes; the text is the default's if the words don't have the option
abbrev pub HasNumber : List Row → Text → ℕ → ℕ → ℕ → ℕ → Type 0
HasNumber rows name least most other value = IsNumberOf (one_of name rows) least most other value

-- the same of an option without a default, which may have none
abbrev pub MayHaveNumber : List Row → Text → ℕ → ℕ → Option ℕ → Type 0
MayHaveNumber rows name least most value = IsNumberIn (one_of name rows) least most value

-- if the words have the option with a number from least to most, the option has that number
abbrev pub GivesNumber : List Row → Text → ℕ → ℕ → ℕ → Type 0
GivesNumber rows name least most value =
    (text : Text) (n : ℕ) → one_of name rows ≡ Some text → WritesWithin text least most n → value ≡ n

abbrev pub GivesSome : List Row → Text → ℕ → ℕ → Option ℕ → Type 0
GivesSome rows name least most value =
    (text : Text) (n : ℕ) → one_of name rows ≡ Some text → WritesWithin text least most n → value ≡ Some n

abbrev pub HasAnyNumber : List Row → Text → ℕ → ℕ → Type 0
HasAnyNumber rows name other value = HasNumber rows name 0 18446744073709551615 other value

-- the flag is set exactly if its text is true, as it is if the words have it
abbrev pub IsFlag : List Row → Text → Bool → Type 0
IsFlag rows name value = (one_of name rows ≡ Some (codes "true") → value ≡ true)
    × ((one_of name rows ≡ Some (codes "true") → ⊥) → value ≡ false)

-- the text is the word that the argument has, as it was written; empty if it has none
abbrev pub HasWord : List Row → Text → Text → Type 0
HasWord rows name text = text ≡ unwrap_or (first_of name rows) []

-- the path is the word that the option has, as it was written, if it has one
abbrev pub HasPath : List Row → Text → Option Text → Type 0
HasPath rows name path = path ≡ first_of name rows

-- how the machine is built
abbrev pub TellsMachine : List Row → MachineOptions → Type 0
TellsMachine rows options =
    HasAnyNumber rows (codes "lease") machine_default.lease options.lease
    × HasAnyNumber rows (codes "time") machine_default.time options.time
    × HasAnyNumber rows (codes "banks") machine_default.banks options.banks
    × HasAnyNumber rows (codes "sets") machine_default.sets options.sets
    × HasAnyNumber rows (codes "ways") machine_default.ways options.ways
    × HasAnyNumber rows (codes "bank-sets") machine_default.bank_sets options.bank_sets
    × HasAnyNumber rows (codes "bank-ways") machine_default.bank_ways options.bank_ways
    × HasAnyNumber rows (codes "line-words") machine_default.line_words options.line_words
    × HasAnyNumber rows (codes "messages") machine_default.messages options.messages
    × IsFlag rows (codes "private-write") options.private_write

-- the schedule is seed exactly if the word is seed, and threads exactly if it is threads; the rule of its option takes
-- no other word but round
abbrev pub IsSchedule : List Row → Text → Schedule → Type 0
IsSchedule rows name schedule = (first_of name rows ≡ Some (codes "seed") → schedule ≡ Seed)
    × (first_of name rows ≡ Some (codes "threads") → schedule ≡ Threads)
    × ((first_of name rows ≡ Some (codes "seed") → ⊥) → (first_of name rows ≡ Some (codes "threads") → ⊥)
    → schedule ≡ Round)

-- rounds and threads can be fair, and draws can't
abbrev pub fair_schedule : Bool → Schedule → Option Schedule
fair_schedule false schedule = Some schedule
fair_schedule true Round = Some FairRound
fair_schedule true FairRound = Some FairRound
fair_schedule true Seed = None
fair_schedule true Threads = Some FairThreads
fair_schedule true FairThreads = Some FairThreads

-- the order of events is that of the schedule that the words name, made fair if they ask for it; none if it can't be
abbrev pub IsOrder : List Row → Option Schedule → Type 0
IsOrder rows order =
    (named : Schedule) × IsSchedule rows (codes "schedule") named
    × (fair : Bool) × IsFlag rows (codes "fair") fair × (order ≡ fair_schedule fair named)

-- how a run goes
abbrev pub TellsRun : List Row → RunOptions → Type 0
TellsRun rows options =
    IsOrder rows (Some options.schedule)
    × HasAnyNumber rows (codes "seed") run_default.seed options.seed
    × HasNumber rows (codes "workers") 1 16 run_default.workers options.workers
    × HasNumber rows (codes "limit") 1 4294967295 run_default.limit options.limit
    × TellsMachine rows options.machine

-- 1 to 16 workers, and a limit of 1 to 4,294,967,295
pub record RunIsInRange (options : RunOptions) : Type 0 where
  pub workers : (1 ≤ options.workers) × (options.workers ≤ 16)
  pub limit : (1 ≤ options.limit) × (options.limit ≤ 4294967295)

-- how often the test is run, whether its report is JSON, and how it is run
abbrev pub TellsLitmus : List Row → LitmusOptions → Type 0
TellsLitmus rows options =
    HasNumber rows (codes "runs") 1 1000000 litmus_default.runs options.runs × IsFlag rows (codes "json") options.json
    × TellsRun rows options.run

-- how many states a list of ends may keep at once, whether it has orders, and whether it is JSON
abbrev pub TellsEnds : List Row → EndsOptions → Type 0
TellsEnds rows options =
    HasNumber rows (codes "states") 1 4294967295 ends_default.most_states options.most_states
    × IsFlag rows (codes "orders") options.orders × IsFlag rows (codes "json") options.json

-- whether the records of a trace are asked for, or counts and rows of them, whether its report is JSON, and how it is
-- run
abbrev pub TellsTrace : List Row → TraceOptions → Type 0
TellsTrace rows options =
    IsFlag rows (codes "records") options.records × IsFlag rows (codes "counts") options.counts
    × MayHaveNumber rows (codes "every") 1 18446744073709551615 options.every
    × IsFlag rows (codes "json") options.json × TellsRun rows options.run

-- how a trace is run, whether it is read as the run goes, and what is said of that: how many cores there are, that its
-- report has no words, and after how many million operations each a line is written
abbrev pub TellsAsked : List Row → Asked → Type 0
TellsAsked rows asked =
    TellsTrace rows asked.trace × IsFlag rows (codes "stream") asked.stream
    × MayHaveNumber rows (codes "cores") 1 64 asked.cores × IsFlag rows (codes "no-words") asked.no_words
    × MayHaveNumber rows (codes "progress") 1 4294967295 asked.progress

-- the options of a trace that is read as the run goes
abbrev pub stream_of : Asked → StreamOptions
stream_of asked = record {
  records = asked.trace.records;
  words = not asked.no_words;
  json = asked.trace.json;
  cores = unwrap_or asked.cores stream_default.cores;
  progress = asked.progress;
  run = asked.trace.run;
}

-- whether all records are asked for, and whether the verdict is JSON
abbrev pub TellsCheck : List Row → CheckOptions → Type 0
TellsCheck rows options =
    IsFlag rows (codes "complete") options.complete × IsFlag rows (codes "json") options.json

-- a number from least to most, or none
abbrev pub MayBeWithin : ℕ → ℕ → Option ℕ → Type 0
MayBeWithin least most value = (n : ℕ) → value ≡ Some n → (least ≤ n) × (n ≤ most)

abbrev pub is_shared : Schedule → Bool
is_shared Round = false
is_shared FairRound = false
is_shared Seed = false
is_shared Threads = true
is_shared FairThreads = true

-- counts are asked for of a run by threads, which isn't counted, or beside records, where they have no place
abbrev pub counts_in_vain : TraceOptions → Bool
counts_in_vain options = options.counts && (options.records || is_shared options.run.schedule)

-- rows of counts are asked for, but no counts
abbrev pub rows_in_vain : TraceOptions → Bool
rows_in_vain options = is_some options.every && not options.counts

-- JSON is asked for beside records, which are lines
abbrev pub json_in_vain : TraceOptions → Bool
json_in_vain options = options.json && options.records

-- the trace is to be read as the run goes, but by threads, or with counts
abbrev pub stream_in_vain : Asked → Bool
stream_in_vain asked = asked.stream && (asked.trace.counts || is_shared asked.trace.run.schedule)

-- a number of cores is asked for, or no words, but the trace is read before it runs
abbrev pub cores_in_vain : Asked → Bool
cores_in_vain asked = not asked.stream && (is_some asked.cores || asked.no_words)

-- lines that tell how far a run is are asked for, but the trace is read before it runs
abbrev pub progress_in_vain : Asked → Bool
progress_in_vain asked = not asked.stream && is_some asked.progress
