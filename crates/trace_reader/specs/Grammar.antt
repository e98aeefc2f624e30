-- What the texts of traces, of records and of openings are: relations between bytes and what they say.
use Rattle.std.specs.Prelude.{◌≡◌, ℕ, ◌≤◌, List, [], ◌∷◌, length, ◌⊎◌, None}
use Rattle.std.specs.FinMap.{FinMap, empty, get, insert}
use Rattle.std.specs.Ordering.{nat_cmp}
use Rattle.physiological_order.specs.declared.operation.Record.{Record}
use Rattle.trace_lines.specs.declared.steps.Form.{Form}
use Rattle.trace_lines.specs.declared.steps.Form.TheVariants.{One, Two}
use Rattle.programs.specs.declared.steps.Step.{Step}
use Rattle.trace_lines.specs.Grammar.{IsTraceLine, IsRecordLine, IsFormLine, IsOpeningLine}
use Rattle.trace_reader.specs.declared.limits.TheConstants.{MOST_BYTES, MOST_LINES}
use Rattle.text_lines.specs.Lines.{lines_of}
use Rattle.trace_reader.specs.Lines.{worded}
use Rattle.trace_reader.specs.Openings.{AreOpened}
use Rattle.trace_reader.specs.Steps.{IsByCore}

-- no line has more bytes than a line may have
unfoldable pub AreShort : List (List ℕ) → Type 0
AreShort [] = Unit {0}
AreShort (line ∷ lines) = (length line ≤ MOST_BYTES) × AreShort lines

-- no more lines than there may be, and none too long
abbrev pub HasFewShortLines : List (List ℕ) → Type 0
HasFewShortLines lines = (length lines ≤ MOST_LINES) × AreShort lines

-- each line's fields say a step of a core, in this form
unfoldable pub TellSteps : Form → List (List (List ℕ)) → List (ℕ × Step) → Type 0
TellSteps form [] [] = Unit {0}
TellSteps form (fields ∷ lines) (told ∷ later) = IsTraceLine form fields told.0 told.1 × TellSteps form lines later
TellSteps form lines told = ⊥

-- the first line declares the form: trace 2 alone stands for form 2 and is no step; any other line is a step of form 1
abbrev pub TellTrace : List (List (List ℕ)) → List (ℕ × Step) → Type 0
TellTrace [] told = told ≡ []
TellTrace (first ∷ lines) told = (IsFormLine first One × TellSteps One (first ∷ lines) told)
    ⊎ (IsFormLine first Two × TellSteps Two lines told)

-- the text of a trace with these steps of each core
abbrev pub IsTrace : List ℕ → List (List Step) → Type 0
IsTrace bytes lanes = HasFewShortLines (lines_of bytes)
    × ((told : List (ℕ × Step)) × TellTrace (worded (lines_of bytes)) told × IsByCore told lanes)

-- each line's fields write a record
unfoldable pub TellRecords : List (List (List ℕ)) → List Record → Type 0
TellRecords [] [] = Unit {0}
TellRecords (fields ∷ lines) (told ∷ later) = IsRecordLine fields told × TellRecords lines later
TellRecords lines told = ⊥

-- the text of these records, as they are written
abbrev pub AreRecords : List ℕ → List Record → Type 0
AreRecords bytes records = HasFewShortLines (lines_of bytes) × TellRecords (worded (lines_of bytes)) records

-- each line's fields say a word and its value, and no line a word that is among these or that of a line before it
unfoldable pub TellOpening : FinMap nat_cmp ℕ → List (List (List ℕ)) → List (ℕ × ℕ) → Type 0
TellOpening words [] [] = Unit {0}
TellOpening words (fields ∷ lines) (told ∷ later) = IsOpeningLine fields told × (get words told.0 ≡ None)
    × TellOpening (insert words told.0 told.1) lines later
TellOpening words lines told = ⊥

-- the text of an opening with these words, each of a line
abbrev pub IsOpening : List ℕ → FinMap nat_cmp ℕ → Type 0
IsOpening bytes words = HasFewShortLines (lines_of bytes)
    × ((told : List (ℕ × ℕ)) × TellOpening empty (worded (lines_of bytes)) told × AreOpened told words)
