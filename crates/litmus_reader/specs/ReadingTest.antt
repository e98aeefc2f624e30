-- Reading a whole text, with its first fault.
use Rattle.std.specs.Prelude.{◌≡◌, ℕ, ◌⊎◌, nat_lt, Bool, true, false, if◌then◌else◌, List, [], length, Result, Ok, Err}
use Rattle.litmus_lexer.specs.declared.limits.TheConstants.{MOST_BYTES}
use Rattle.litmus_lexer.specs.declared.errors.Kind.{Kind}
use Rattle.litmus_lexer.specs.declared.errors.Kind.TheVariants.{NoMemory, TooLarge, CutShort}
use Rattle.litmus_lexer.specs.declared.errors.LitmusError.{LitmusError}
use Rattle.litmus_lexer.specs.Reading.{Read, fails}
use Rattle.piece_forms.specs.Reading.{reads}
use Rattle.litmus_parser.specs.Extents.{reach}
use Rattle.litmus_parser.specs.Header.{text_pieces}
use Rattle.litmus_reader.specs.Litmus.{Litmus}
use Rattle.litmus_reader.specs.Grammar.{whole_test}

abbrev pub is_cut_short : Kind → Bool
is_cut_short CutShort = true
is_cut_short kind = false

-- if a text ends too early, the fault is the one of its end; and nothing but its end may come after the condition
abbrev pub ended_by : LitmusError → Read Litmus → Result Litmus LitmusError
ended_by end (Ok r) = if is_cut_short end.kind then Ok r.0 else Err end
ended_by end (Err fault) = if is_cut_short fault.kind then Err end else Err fault

unfoldable pub test_at : List ℕ → Result Litmus LitmusError
test_at text = if nat_lt MOST_BYTES (length text) then fails TooLarge 1 else ended_by (reach text).1
    (reads whole_test 1 (text_pieces (reach text).0 []))

-- what a function answered, seen by view, is what is read, unless memory ran out
abbrev pub IsReadOrNoMemory : {X : Type 0} → (X → Litmus) → Result X LitmusError → Result Litmus LitmusError → Type 0
IsReadOrNoMemory view (Ok test) read = read ≡ Ok (view test)
IsReadOrNoMemory view (Err e) read = (e ≡ record { line = 0; kind = NoMemory }) ⊎ (read ≡ Err e)
