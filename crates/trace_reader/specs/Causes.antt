-- What is in the line of a fault, for each kind.
use Rattle.std.specs.Prelude.{◌≡◌, ◌≢◌, ℕ, ◌+◌, ◌<◌, List, [], ◌∷◌, ◌++◌, length, ◌⊎◌, Option, Some, None}
use Rattle.std.specs.Prelude.{IsSome}
use Rattle.std.specs.FinMap.{FinMap, empty, get}
use Rattle.std.specs.Ordering.{nat_cmp}
use Rattle.trace_lines.specs.declared.errors.Kind.{Kind}
use Rattle.trace_lines.specs.declared.errors.Kind.TheVariants.{TooLong, DoubleWord}
use Rattle.trace_lines.specs.declared.steps.Form.{Form}
use Rattle.trace_lines.specs.declared.steps.Form.TheVariants.{One}
use Rattle.trace_lines.specs.Causes.{TraceCause, RecordCause, FormCause, OpeningCause}
use Rattle.trace_lines.specs.Fields.{fields_of}
use Rattle.trace_lines.specs.Grammar.{IsFormLine, IsOpeningLine}
use Rattle.trace_reader.specs.declared.limits.TheConstants.{MOST_BYTES, MOST_LINES}
use Rattle.text_lines.specs.Lines.{lines_of}
use Rattle.trace_reader.specs.Grammar.{TellOpening}
use Rattle.trace_reader.specs.Lines.{worded}
use Rattle.trace_reader.specs.Openings.{opened}

-- a line with too many bytes, or after the most lines that there may be
abbrev pub IsTooLong : ℕ → List ℕ → Type 0
IsTooLong number line = (MOST_BYTES < length line) ⊎ (number ≡ MOST_LINES + 1)

-- what is wrong with a line's fields after these lines, of which the first with fields declares the form; without one,
-- the line itself declares it
abbrev pub FieldsCause : Option Form → List (List (List ℕ)) → Kind → List (List ℕ) → Type 0
FieldsCause (Some form) lines kind fields = TraceCause form kind fields
FieldsCause None [] kind fields = FormCause kind fields ⊎ (IsFormLine fields One × TraceCause One kind fields)
FieldsCause None (first ∷ lines) kind fields = (form : Form) × IsFormLine first form × TraceCause form kind fields

-- a line is too long or comes too late, or this is wrong with its fields
abbrev pub LineCause : (Kind → List (List ℕ) → Type 0) → Kind → ℕ → List ℕ → Type 0
LineCause Cause kind number line = ((kind ≡ TooLong) × IsTooLong number line)
    ⊎ ((fields_of line ≢ []) × Cause kind (fields_of line))

-- a line of these has this number, where the first of them has that one; and this holds of it and the lines before it
abbrev pub StandsAtLine : ℕ → List (List ℕ) → ℕ → (List (List ℕ) → List ℕ → Type 0) → Type 0
StandsAtLine first lines number P = (before : List (List ℕ)) × (line : List ℕ) × (after : List (List ℕ))
    × (lines ≡ before ++ line ∷ after) × (number ≡ first + length before) × P before line

-- the line with this number has the cause of the kind in the text, by what is wrong with fields after these lines
abbrev pub TextFault : (List (List (List ℕ)) → Kind → List (List ℕ) → Type 0) → List ℕ → Kind → ℕ → Type 0
TextFault Cause bytes kind number = StandsAtLine 1 (lines_of bytes) number
    (λ before line. LineCause (Cause (worded before)) kind number line)

-- in the text of a trace
abbrev pub TraceFault : List ℕ → Kind → ℕ → Type 0
TraceFault = TextFault (FieldsCause None)

-- in the text of records
abbrev pub RecordFault : List ℕ → Kind → ℕ → Type 0
RecordFault = TextFault (λ before. RecordCause)

-- what is wrong with a line's fields after these lines, behind others that opened these words: its word is among them,
-- or among those that these lines open; or the line alone is wrong
abbrev pub OpeningFieldsCause : FinMap nat_cmp ℕ → List (List (List ℕ)) → Kind → List (List ℕ) → Type 0
OpeningFieldsCause words lines DoubleWord fields = (told : ℕ × ℕ) × IsOpeningLine fields told
    × ((before : List (ℕ × ℕ)) × TellOpening words lines before × IsSome (get (opened words before) told.0))
OpeningFieldsCause words lines kind fields = OpeningCause kind fields

-- in the text of an opening
abbrev pub OpeningFault : List ℕ → Kind → ℕ → Type 0
OpeningFault = TextFault (OpeningFieldsCause empty)
