-- Reading the lines of a text from its front, up to the first fault.
use Rattle.std.specs.Prelude.{ℕ, suc, ◌||◌, nat_lt, if◌then◌else◌, List, [], ◌∷◌, ◌++◌, length, map}
use Rattle.std.specs.Prelude.{Option, Some, None, Result, Ok, Err}
use Rattle.std.specs.FinMap.{FinMap, empty, get, insert}
use Rattle.std.specs.Ordering.{nat_cmp}
use Rattle.physiological_order.specs.declared.operation.Record.{Record}
use Rattle.trace_lines.specs.declared.errors.Kind.{Kind}
use Rattle.trace_lines.specs.declared.errors.Kind.TheVariants.{TooLong, DoubleWord}
use Rattle.trace_lines.specs.declared.errors.TraceError.{TraceError}
use Rattle.trace_lines.specs.declared.steps.Form.{Form}
use Rattle.trace_lines.specs.declared.steps.Form.TheVariants.{One, Two}
use Rattle.programs.specs.declared.steps.Step.{Step}
use Rattle.trace_lines.specs.Fields.{fields_of}
use Rattle.text_lines.specs.Reading.{◌>>=◌}
use Rattle.trace_lines.specs.Reading.{trace_line_at, record_line_at, form_line_at, opening_line_at}
use Rattle.trace_reader.specs.declared.limits.TheConstants.{MOST_BYTES, MOST_LINES}
use Rattle.text_lines.specs.Lines.{lines_of}

-- what a line with this number says, unless it is too long or stands behind the most lines that a text has
abbrev pub fitted : {X : Type 0} → ℕ → ℕ → List ℕ → Result X Kind → Result X Kind
fitted most number line said =
    if nat_lt MOST_BYTES (length line) || nat_lt most number then Err TooLong else said

-- what lines tell, each with its line's number, up to their first fault; and that fault, if a line has one
abbrev pub Told : Type 0 → Type 0
Told X = List (ℕ × X) × Option TraceError

-- what is told from here on, or the fault of the line with this number
abbrev pub at_line : {X Y : Type 0} → ℕ → Result X Kind → (X → Told Y) → Told Y
at_line number (Ok x) f = f x
at_line number (Err kind) f = ([], Some (record { line = number; kind = kind }))

-- what the line with this number tells, if anything
abbrev pub numbered : {X : Type 0} → ℕ → Option X → List (ℕ × X)
numbered number None = []
numbered number (Some x) = (number, x) ∷ []

abbrev pub list_of_option : {X : Type 0} → Option X → List X
list_of_option None = []
list_of_option (Some x) = x ∷ []

-- these in front of what is told from here on
abbrev pub behind : {X : Type 0} → List (ℕ × X) → Told X → Told X
behind xs told = (xs ++ told.0, told.1)

-- what was told, without numbers; the fault in its place, if a line has one
abbrev pub unless_fault : {X : Type 0} → List (ℕ × X) → Option TraceError → Result (List X) TraceError
unless_fault told None = Ok (map (λ one. one.1) told)
unless_fault told (Some e) = Err e

abbrev pub all_told : {X : Type 0} → Told X → Result (List X) TraceError
all_told told = unless_fault told.0 told.1

-- a step of a line in a form that is known
abbrev pub step_said : Form → List (List ℕ) → Result (Option Form × Option (ℕ × Step)) Kind
step_said form fields = trace_line_at form fields >>= (λ told. Ok (Some form, told))

-- a line that declares the form: that of form 2 is no step
abbrev pub form_said : List (List ℕ) → Option Form → Result (Option Form × Option (ℕ × Step)) Kind
form_said fields None = Ok (None, None)
form_said fields (Some One) = step_said One fields
form_said fields (Some Two) = Ok (Some Two, None)

-- what a line says, after lines that declared this form or none: the form from there on, and a step
unfoldable pub said_at : Option Form → List (List ℕ) → Result (Option Form × Option (ℕ × Step)) Kind
said_at (Some form) fields = step_said form fields
said_at None fields = form_line_at fields >>= form_said fields

-- what lines of a text of so many lines at most tell, behind lines that left this state; the first has this number
unfoldable pub told_from : {S X : Type 0} → ℕ → (S → List (List ℕ) → Result (S × Option X) Kind) → ℕ → S →
    List (List ℕ) → Told X
told_from most says number state [] = ([], None)
told_from most says number state (line ∷ lines) =
    at_line number (fitted most number line (says state (fields_of line)))
    (λ said. behind (numbered number said.1) (told_from most says (suc number) said.0 lines))

-- all that lines say, behind lines that left this state, or their first fault; the first line has this number
unfoldable pub read_from : {S X : Type 0} → (S → List (List ℕ) → Result (S × Option X) Kind) → ℕ → S → List (List ℕ) →
    Result (List X) TraceError
read_from says number state lines = all_told (told_from MOST_LINES says number state lines)

-- the steps of lines in their order, and of a text
abbrev pub steps_in : List (List ℕ) → Result (List (ℕ × Step)) TraceError
steps_in lines = read_from said_at 1 None lines

abbrev pub steps_read : List ℕ → Result (List (ℕ × Step)) TraceError
steps_read bytes = steps_in (lines_of bytes)

-- a record of a line; what lines say doesn't depend on those before
abbrev pub record_said : Unit {0} → List (List ℕ) → Result (Unit {0} × Option Record) Kind
record_said none fields = record_line_at fields >>= (λ told. Ok (none, told))

-- the records of lines in their order, and of a text
abbrev pub records_in : List (List ℕ) → Result (List Record) TraceError
records_in lines = read_from record_said 1 tt lines

abbrev pub records_at : List ℕ → Result (List Record) TraceError
records_at bytes = records_in (lines_of bytes)

-- a word that isn't among these, which it joins; a word opens once
abbrev pub opened_once : FinMap nat_cmp ℕ → ℕ × ℕ → Option ℕ → Result (FinMap nat_cmp ℕ × Option (ℕ × ℕ)) Kind
opened_once words told None = Ok (insert words told.0 told.1, Some told)
opened_once words told (Some value) = Err DoubleWord

abbrev pub joined : FinMap nat_cmp ℕ → Option (ℕ × ℕ) → Result (FinMap nat_cmp ℕ × Option (ℕ × ℕ)) Kind
joined words None = Ok (words, None)
joined words (Some told) = opened_once words told (get words told.0)

-- what a line of an opening says, after lines that opened these words: the words from there on, and its own
abbrev pub opening_said : FinMap nat_cmp ℕ → List (List ℕ) → Result (FinMap nat_cmp ℕ × Option (ℕ × ℕ)) Kind
opening_said words fields = opening_line_at fields >>= joined words

-- the words of lines in their order with their values, and of a text
abbrev pub opening_in : List (List ℕ) → Result (List (ℕ × ℕ)) TraceError
opening_in lines = read_from opening_said 1 empty lines

abbrev pub opening_read : List ℕ → Result (List (ℕ × ℕ)) TraceError
opening_read bytes = opening_in (lines_of bytes)
