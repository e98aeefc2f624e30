-- The text that reports on the runs of a test.
use Rattle.std.specs.Prelude.{ℕ, ◌==◌, nat_lt, Bool, if◌then◌else◌, List, ◌++◌, length, codes}
use Rattle.litmus_parser.specs.declared.syntax.Quantifier.{Quantifier}
use Rattle.litmus_parser.specs.declared.syntax.Quantifier.TheVariants.{Exists, NotExists, Forall}
use Rattle.litmus_reader.specs.Litmus.{Litmus}
use Rattle.report_text.specs.declared.run_end.RunEnd.{RunEnd}
use Rattle.report_text.specs.declared.ends.Endings.{Endings}
use Rattle.report_text.specs.declared.sums.Sums.{Sums}
use Rattle.report_text.specs.Ends.{endings_of}
use Rattle.report_lines.specs.declared.layout.Layout.{Layout}
use Rattle.report_lines.specs.Layouts.{closing, list_closing, list_opening, opening, parted}
use Rattle.report_lines.specs.Lines.{counts_text, field, word_field}
use Rattle.report_text.specs.Lines.{state_text, quantifier_text}
use Rattle.report_text.specs.States.{NamedValues, done_states, tallied}
use Rattle.report_text.specs.Sums.{sums_of}

-- the test, and how many runs ended in which way
abbrev pub ends_text : Layout → Litmus → ℕ → Endings → List ℕ
ends_text layout test runs endings = word_field layout (codes "test") test.name
    ++ field layout (codes "threads") test.threads
    ++ field layout (codes "runs") runs
    ++ field layout (codes "all-done") endings.all_done
    ++ field layout (codes "stalled") endings.stalled
    ++ field layout (codes "limit") endings.turns_used
    ++ field layout (codes "exhausted") endings.exhausted
    ++ field layout (codes "memory") endings.no_memory

-- the end states, in order
abbrev pub state_list : Layout → Litmus → List (ℕ × NamedValues) → List ℕ
state_list layout test states = parted layout (λ at. state_text layout test) 0 states

-- how many end states there are, and each of them
abbrev pub states_text : Layout → Litmus → List (ℕ × NamedValues) → List ℕ
states_text layout test states =
    list_opening layout (codes "states") (length states) ++ state_list layout test states ++ list_closing layout

-- exists: in some run; ~exists: in none; forall: in all that are all done
abbrev pub is_yes : Quantifier → ℕ → ℕ → Bool
is_yes Exists held all_done = nat_lt 0 held
is_yes NotExists held all_done = held == 0
is_yes Forall held all_done = held == all_done

-- the condition, in how many runs its expression holds, and the verdict
abbrev pub condition_text : Layout → Litmus → Endings → List ℕ
condition_text layout test endings = word_field layout (codes "condition") (quantifier_text test.quantifier)
    ++ field layout (codes "held") endings.held
    ++ word_field layout (codes "verdict") (if is_yes test.quantifier endings.held endings.all_done then codes
    "yes" else codes "no")

abbrev pub sums_text : Layout → Sums → List ℕ
sums_text layout sums = field layout (codes "completed") sums.completed
    ++ counts_text layout sums.counts
    ++ field layout (codes "stale-hits") sums.stale

unfoldable pub litmus_text : Layout → Litmus → List RunEnd → List ℕ
litmus_text layout test runs = opening layout (codes "litmus")
    ++ ends_text layout test (length runs) (endings_of test runs)
    ++ states_text layout test (tallied (done_states runs))
    ++ condition_text layout test (endings_of test runs)
    ++ sums_text layout (sums_of runs)
    ++ closing layout
