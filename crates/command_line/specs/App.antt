-- The command line of the program, as clap reads it.
use Rattle.std.specs.Prelude.{◌≡◌, ℕ, true, List, [], ◌∷◌, Some, codes, map}
use Rattle.std.specs.Borrow.{Bor}
use Rattle.clap.specs.Words.{App, Rule, Text, new_app, new_rule, with_rule, with_subcommand}
use Rattle.clap.specs.declared.builder.action.ArgAction.TheVariants.{SetTrue, Set}
use Rattle.clap.specs.declared.builder.value_parser.ValueParser.{ValueParser}
use Rattle.clap.specs.declared.builder.value_parser.ValueParser.TheVariants.{Names, Unsigned}

-- any number of 64 bits
abbrev pub any_number : ValueParser
any_number = Unsigned 0 18446744073709551615

-- a number from 1 up to this one
abbrev pub up_to : ℕ → ValueParser
up_to most = Unsigned 1 most

-- the word round, the word seed or the word threads, and no other
abbrev pub NamesSchedules : ValueParser → Type 0
NamesSchedules p =
    (names : Bor (List (Bor Text))) × (p ≡ Names names)
    × (map (λ name. name.now) names.now ≡ codes "round" ∷ codes "seed" ∷ codes "threads" ∷ [])

-- any number of 64 bits but 0
abbrev pub from_one : ValueParser
from_one = up_to 18446744073709551615

-- --name N, a number without a default
abbrev pub bare_rule : Text → ValueParser → Rule
bare_rule name p = record (new_rule name) { long = Some name; action = Some Set; parser = Some p }

-- --name N, a number with a default
abbrev pub number_rule : Text → Text → ValueParser → Rule
number_rule name default p = record (bare_rule name p) { defaults = default ∷ [] }

abbrev pub schedule_rule : ValueParser → Rule
schedule_rule p = number_rule (codes "schedule") (codes "round") p

-- --name without a value
abbrev pub flag_rule : Text → Rule
flag_rule name = record (new_rule name) { long = Some name; action = Some SetTrue }

-- --name FILE, without a default
abbrev pub path_rule : Text → Rule
path_rule name = record (new_rule name) { long = Some name; action = Some Set; value_names = 1 }

-- a word in its place, which is required
abbrev pub file_rule : Text → Rule
file_rule name = record (new_rule name) { required = true }

abbrev pub with_rules : App → List Rule → App
with_rules app [] = app
with_rules app (rule ∷ rules) = with_rules (with_rule app rule) rules

-- in which order and how far a run goes
abbrev pub run_rules : ValueParser → List Rule
run_rules p =
    schedule_rule p
    ∷ number_rule (codes "seed") (codes "0") any_number
    ∷ number_rule (codes "limit") (codes "100000") (up_to 4294967295)
    ∷ number_rule (codes "workers") (codes "1") (up_to 16)
    ∷ flag_rule (codes "fair")
    ∷ flag_rule (codes "private-write")
    ∷ []

-- how the machine is built
abbrev pub machine_rules : List Rule
machine_rules =
    number_rule (codes "lease") (codes "10") any_number
    ∷ number_rule (codes "time") (codes "0") any_number
    ∷ number_rule (codes "banks") (codes "1") any_number
    ∷ number_rule (codes "sets") (codes "64") any_number
    ∷ number_rule (codes "ways") (codes "4") any_number
    ∷ number_rule (codes "bank-sets") (codes "256") any_number
    ∷ number_rule (codes "bank-ways") (codes "8") any_number
    ∷ number_rule (codes "line-words") (codes "1") any_number
    ∷ number_rule (codes "messages") (codes "4096") any_number
    ∷ []

-- all the options of a run, and a file
abbrev pub with_run_and_file : App → ValueParser → App
with_run_and_file app p = with_rule (with_rules (with_rules app (run_rules p)) machine_rules) (file_rule (codes "FILE"))

-- a report may be asked for as JSON
abbrev pub json_rule : Rule
json_rule = flag_rule (codes "json")

-- a litmus test may be run more than once
abbrev pub litmus_app : ValueParser → App
litmus_app p =
    with_run_and_file
    (with_rules (new_app (codes "litmus")) (number_rule (codes "runs") (codes "1") (up_to 1000000) ∷ json_rule ∷ [])) p

-- the ends of a litmus test are listed with so many states at once, and may have orders
abbrev pub ends_app : App
ends_app =
    with_rules (new_app (codes "ends"))
    (number_rule (codes "states") (codes "4194304") (up_to 4294967295) ∷ flag_rule (codes "orders")
    ∷ json_rule ∷ file_rule (codes "FILE") ∷ [])

-- a trace may be run with its records reported, or counted, also each time that so many operations are completed
abbrev pub count_rules : List Rule
count_rules =
    flag_rule (codes "records") ∷ flag_rule (codes "counts") ∷ bare_rule (codes "every") from_one ∷ json_rule ∷ []

-- a trace may be read as the run goes, by a machine of so many cores, with no words in its report, and with a line each
-- time that so many million operations are completed
abbrev pub stream_rules : List Rule
stream_rules =
    flag_rule (codes "stream") ∷ bare_rule (codes "cores") (up_to 64) ∷ flag_rule (codes "no-words")
    ∷ bare_rule (codes "progress") (up_to 4294967295) ∷ []

abbrev pub trace_app : ValueParser → App
trace_app p = with_run_and_file (with_rules (with_rules (new_app (codes "trace")) count_rules) stream_rules) p

-- a check needs two files, may ask for all records, and may name a file with an opening
abbrev pub check_app : App
check_app =
    with_rules (new_app (codes "check"))
    (flag_rule (codes "complete") ∷ path_rule (codes "opening") ∷ json_rule ∷ file_rule (codes "TRACE")
    ∷ file_rule (codes "RECORDS") ∷ [])

-- what the two commands that run take as a schedule
abbrev pub Parsers : Type 0
Parsers = ValueParser × ValueParser

abbrev pub NameSchedules : Parsers → Type 0
NameSchedules p = NamesSchedules p.0 × NamesSchedules p.1

-- a command is required, and there is a version
abbrev pub wanting : App → App
wanting app = record app { top = record (app.top) { subcommand_required = true; has_version = true } }

abbrev pub tardis_app : Parsers → App
tardis_app p =
    with_subcommand
    (with_subcommand
    (with_subcommand (with_subcommand (wanting (new_app (codes "tardis"))) (litmus_app p.0).top) ends_app.top)
    (trace_app p.1).top)
    check_app.top
