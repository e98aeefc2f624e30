-- The report on a litmus text, and why a text has none.
use Rattle.std.specs.Prelude.{◌≡◌, ◌≢◌, ◌⊎◌, ℕ, ◌<◌, ◌≤◌, Bool, true, false, List, length, Err}
use Rattle.std.specs.List.{list_all}
use Rattle.litmus_lexer.specs.declared.errors.Kind.{Kind}
use Rattle.litmus_lexer.specs.declared.errors.Kind.TheVariants.{NoMemory as LackOfMemory}
use Rattle.litmus_lexer.specs.declared.errors.LitmusError.{LitmusError}
use Rattle.litmus_lexer.specs.declared.limits.TheConstants.{MOST_BYTES}
use Rattle.litmus_reader.specs.Faults.{Fault, FaultBefore, good_lines}
use Rattle.litmus_reader.specs.Grammar.{IsTest}
use Rattle.litmus_reader.specs.Litmus.{Litmus}
use Rattle.litmus_reader.specs.ReadingTest.{test_at}
use Rattle.machine_table.specs.SetUp.{is_good}
use Rattle.report_text.specs.Ends.{ends_as}
use Rattle.report_text.specs.Text.{litmus_text}
use Rattle.programs.specs.declared.ends.End.TheVariants.{AllDone}
use Rattle.report_text.specs.declared.run_end.RunEnd.{RunEnd}
use Rattle.run_options.specs.declared.options.LitmusOptions.{LitmusOptions}
use Rattle.run_results.specs.declared.results.RunError.{RunError}
use Rattle.run_results.specs.declared.results.RunError.TheVariants.{BadConfig, NoMemory, Litmus as Refused}
use Rattle.worker_driver.specs.AskedRuns.{AreAsked, machine_for}
use Rattle.report.specs.Layouts.{layout_of}

-- the bytes are the text of a test, and these are the runs of it that the options ask for
pub record AreRuns (options : LitmusOptions) (bytes : List ℕ) (test : Litmus) (runs : List RunEnd) : Type 0 where
  pub is_test : IsTest bytes test
  pub asked : AreAsked options test runs

-- the text reports on such runs, and says whether all of them ended all done
pub record IsLitmusReport (options : LitmusOptions) (bytes : List ℕ) (all_done : Bool) (text : List ℕ) : Type 0 where
  pub test : Litmus
  pub runs : List RunEnd
  pub are_runs : AreRuns options bytes test runs
  pub text_is : text ≡ litmus_text (layout_of options.json) test runs
  pub done : all_done ≡ list_all (ends_as AllDone) runs

-- the bytes are the text of no test, and the fault has its kind's cause in its line
abbrev pub IsNoTest : List ℕ → LitmusError → Type 0
IsNoTest bytes e = ((test : Litmus) → IsTest bytes test → ⊥) × Fault bytes e.kind e.line

-- the fault that reading reports of the bytes; refused memory is none
abbrev pub IsLitmusFault : List ℕ → LitmusError → Type 0
IsLitmusFault bytes e = (test_at bytes ≡ Err e) × IsNoTest bytes e × (e.kind ≢ LackOfMemory)

-- why no test is read of bytes: they are none, or memory was refused for bytes that there are
abbrev pub HasNoTest : List ℕ → RunError → Type 0
HasNoTest bytes (Refused e) = IsLitmusFault bytes e
HasNoTest bytes NoMemory = 0 < length bytes
HasNoTest bytes e = ⊥

-- why bytes have no report
abbrev pub HasNoReport : LitmusOptions → List ℕ → RunError → Type 0
HasNoReport options bytes BadConfig =
    (test : Litmus) × IsTest bytes test × (is_good (machine_for options test) ≡ false)
HasNoReport options bytes e = HasNoTest bytes e

-- reading the bytes allocates only if they are few enough, and no fault stands before the initial block
abbrev pub ReadingAllocates : List ℕ → Type 0
ReadingAllocates bytes =
    (length bytes ≤ MOST_BYTES) × ((kind : Kind) (n : ℕ) → FaultBefore (good_lines bytes) kind n → ⊥)

-- why no test is read of a text in memory; NoMemory only if reading it allocates
abbrev pub HasNoTestInMemory : List ℕ → RunError → Type 0
HasNoTestInMemory bytes NoMemory = ReadingAllocates bytes
HasNoTestInMemory bytes e = HasNoTest bytes e

-- why a text in memory has no report; NoMemory only if reading it allocates, or the machine is good
abbrev pub HasNoReportInMemory : LitmusOptions → List ℕ → RunError → Type 0
HasNoReportInMemory options bytes NoMemory = ReadingAllocates bytes
    ⊎ ((test : Litmus) × IsTest bytes test × (is_good (machine_for options test) ≡ true))
HasNoReportInMemory options bytes e = HasNoReport options bytes e

-- why a text is refused: refused memory is no fault of it
abbrev pub litmus_refusal_of : Kind → LitmusError → RunError
litmus_refusal_of LackOfMemory error = NoMemory
litmus_refusal_of kind error = Refused error

abbrev pub litmus_refusal : LitmusError → RunError
litmus_refusal error = litmus_refusal_of error.kind error
