-- What a call answers: a text in the caller's buffer, its length, and a number.
use Rattle.std.specs.Prelude.{◌≡◌, ◌⊎◌, ℕ, Bool, true, false, if◌then◌else◌, nat_le, List, ◌++◌, drop, length}
use Rattle.std.specs.Prelude.{Result, Ok, Err}
use Rattle.report.specs.declared.outputs.Report.{Report}
use Rattle.run_results.specs.ErrorLine.{error_line}
use Rattle.run_results.specs.Results.{run_number}
use Rattle.run_results.specs.declared.results.RunError.{RunError}

-- the text is written over the front of the buffer; or, if the buffer has no room for all of it, nothing is changed;
-- and how long the text is
abbrev pub IsPut : (text old new : List ℕ) → (long : ℕ) → Type 0
IsPut text old new long = (long ≡ length text)
    × (new ≡ (if nat_le (length text) (length old) then text ++ drop (length text) old else old))

-- 8 without room for the report; 0 if it says that all is done, or legal, and otherwise 7
abbrev pub report_number : (all_done fits : Bool) → ℕ
report_number all_done false = 8
report_number true true = 0
report_number false true = 7

-- a report, or the error's line and its number
abbrev pub CameTo : Result Report RunError → (old new : List ℕ) → (long number : ℕ) → Type 0
CameTo (Ok report) old new long number = IsPut report.text.items old new long
    × (number ≡ report_number report.all_done (nat_le (length report.text.items) (length old)))
CameTo (Err e) old new long number = IsPut (error_line e) old new long × (number ≡ run_number e)

-- a right report is given; or there is none, and the error's line says why
abbrev pub IsTold : (IsReport : Bool → List ℕ → Type 0) → (HasNone : RunError → Type 0) → (old new : List ℕ) →
    (long number : ℕ) → Type 0
IsTold IsReport HasNone old new long number =
    ((all_done : Bool) × (text : List ℕ) × IsReport all_done text × IsPut text old new long
    × (number ≡ report_number all_done (nat_le (length text) (length old))))
    ⊎ ((e : RunError) × HasNone e × IsPut (error_line e) old new long × (number ≡ run_number e))
