-- What a job has of the words, and why words are refused.
use Rattle.std.specs.Prelude.{◌≡◌, ◌⊎◌, ℕ, List, [], ◌++◌, Option, Some, None, if◌then◌else◌, codes, false, true}
use Rattle.std.specs.Prelude.{option_map, string_bytes}
use Rattle.clap.specs.Words.{IsAmong, Row, Text, fault_of, subcommand_of}
use Rattle.clap.specs.declared.error.kind.ErrorKind.{ErrorKind}
use Rattle.command_line.specs.App.{NameSchedules, Parsers, tardis_app}
use Rattle.command_line.specs.Options.{HasPath, HasWord, IsOrder, TellsAsked, TellsCheck, TellsEnds, TellsLitmus}
use Rattle.command_line.specs.Options.{cores_in_vain, counts_in_vain, json_in_vain, rows_in_vain, stream_in_vain}
use Rattle.command_line.specs.Options.{progress_in_vain, stream_of}
use Rattle.command_line.specs.declared.options.Asked.{Asked}
use Rattle.command_line.specs.declared.words.Conflict.{Conflict}
use Rattle.command_line.specs.declared.words.Conflict.TheVariants.{Fair, Counts, Every, Json}
use Rattle.command_line.specs.declared.words.Conflict.TheVariants.{Stream as StreamConflict, Cores, Progress}
use Rattle.command_line.specs.declared.words.Job.{Job}
use Rattle.command_line.specs.declared.words.Job.TheVariants.{Litmus, Ends, Trace, Stream, Check}
use Rattle.command_line.specs.declared.words.WordsError.{WordsError}
use Rattle.command_line.specs.declared.words.WordsError.TheVariants.{NoMemory, Refused}

-- the first of what a run of a trace can't have together, if the words ask for that
abbrev pub conflict_of : Asked → Option Conflict
conflict_of asked =
    if counts_in_vain asked.trace then Some Counts
    else (if rows_in_vain asked.trace then Some Every
    else (if json_in_vain asked.trace then Some Json
    else (if stream_in_vain asked then Some StreamConflict
    else (if cores_in_vain asked then Some Cores
    else (if progress_in_vain asked then Some Progress else None)))))

-- the words ask for this run of a trace, which can be had
abbrev pub AskForTrace : Text → List Row → Asked → Type 0
AskForTrace command rows asked = (command ≡ codes "trace") × TellsAsked rows asked × (conflict_of asked ≡ None)

-- the command, its options and its files are those that the words give
abbrev pub GivesJob : Text → List Row → Job → Type 0
GivesJob command rows (Litmus options file) =
    (command ≡ codes "litmus") × TellsLitmus rows options × HasWord rows (codes "FILE") file.now
GivesJob command rows (Ends options file) =
    (command ≡ codes "ends") × TellsEnds rows options × HasWord rows (codes "FILE") file.now
GivesJob command rows (Trace options file) =
    (asked : Asked) × AskForTrace command rows asked × (asked.stream ≡ false) × (options ≡ asked.trace)
    × HasWord rows (codes "FILE") file.now
GivesJob command rows (Stream options file) =
    (asked : Asked) × AskForTrace command rows asked × (asked.stream ≡ true) × (options ≡ stream_of asked)
    × HasWord rows (codes "FILE") file.now
GivesJob command rows (Check options opening trace records) =
    (command ≡ codes "check") × TellsCheck rows options
    × HasPath rows (codes "opening") (option_map (λ path. path.now) opening)
    × HasWord rows (codes "TRACE") trace.now × HasWord rows (codes "RECORDS") records.now

-- clap's rules find no fault in the words, which name a command and what it has
abbrev pub AreTaken : List Text → Text × List Row → Type 0
AreTaken words found =
    (p : Parsers) × NameSchedules p × (fault_of (tardis_app p) words ≡ [])
    × (subcommand_of (tardis_app p) words ≡ Some found)

abbrev pub more_text : Text
more_text = codes "For more information, try '--help'.\n"

-- the words are taken, and name the command that has the job's options and files
abbrev pub IsAskedBy : List Text → Job → Type 0
IsAskedBy words job = (found : Text × List Row) × AreTaken words found × GivesJob found.0 found.1 job

-- the command asks for a fair run that can't be, or for what a run of a trace can't have together
abbrev pub AskForConflict : Text → List Row → Conflict → Type 0
AskForConflict command rows Fair = IsOrder rows None
AskForConflict command rows why =
    (command ≡ codes "trace") × (asked : Asked) × TellsAsked rows asked × (conflict_of asked ≡ Some why)

-- what is said then
abbrev pub conflict_text : Conflict → Text
conflict_text Fair = codes "error: '--fair' needs '--schedule round' or '--schedule threads'\n\n" ++ more_text
conflict_text Counts =
    codes "error: '--counts' needs '--schedule round' or '--schedule seed', and no '--records'\n\n" ++ more_text
conflict_text Every = codes "error: '--every' needs '--counts'\n\n" ++ more_text
conflict_text Json = codes "error: '--json' cannot be used with '--records'\n\n" ++ more_text
conflict_text StreamConflict =
    codes "error: '--stream' needs '--schedule round' or '--schedule seed', and no '--counts'\n\n" ++ more_text
conflict_text Cores = codes "error: '--cores' and '--no-words' need '--stream'\n\n" ++ more_text
conflict_text Progress = codes "error: '--progress' needs '--stream'\n\n" ++ more_text

-- clap's rules find a fault of this kind in the words
abbrev pub IsFaulty : List Text → ErrorKind → Type 0
IsFaulty words kind = (p : Parsers) × NameSchedules p × IsAmong kind (fault_of (tardis_app p) words)

-- words are refused only for a fault that clap's rules find in them, or for what can't be had together
abbrev pub IsRefusedFor : List Text → WordsError → Type 0
IsRefusedFor words NoMemory = Unit {0}
IsRefusedFor words (Refused text) = ((kind : ErrorKind) × IsFaulty words kind)
    ⊎ ((why : Conflict) × (found : Text × List Row) × AreTaken words found × AskForConflict found.0 found.1 why
    × (string_bytes text ≡ conflict_text why))

-- the numbers of the refusals
abbrev pub words_number : WordsError → ℕ
words_number (Refused text) = 1
words_number NoMemory = 2
