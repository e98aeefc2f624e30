-- Reading a form from left to right, with the first fault that is met.
use Rattle.std.specs.Prelude.{ℕ, if◌then◌else◌, List, Result, Ok, Err}
use Rattle.litmus_lexer.specs.Pieces.{Piece}
use Rattle.text_lines.specs.Reading.{◌>>=◌}
use Rattle.litmus_lexer.specs.declared.errors.Kind.{Kind}
use Rattle.litmus_lexer.specs.declared.errors.LitmusError.{LitmusError}
use Rattle.litmus_lexer.specs.Reading.{Read, fails}
use Rattle.piece_forms.specs.Places.{Where, seen, behind, line_behind, from, line_of}
use Rattle.piece_forms.specs.Forms.{Verdict, Takes, Leaves, Refuses, Form, Gives, At, Test, Line, Known, InOrder, said}

abbrev pub decided : {A : Type 0} → Where → Verdict A → ℕ → List Piece → Read A
decided place (Takes x) line pieces = Ok (x, line_behind place line pieces, behind place pieces)
decided place (Leaves x) line pieces = Ok (x, line_of place line pieces, from place pieces)
decided place (Refuses kind) line pieces = fails kind (line_of place line pieces)

abbrev pub reads : {A : Type 0} → Form A → ℕ → List Piece → Read A
reads (Gives x) line pieces = Ok (x, line, pieces)
reads (At place look end) line pieces = decided place (said look end (seen place pieces)) line pieces
reads (Test holds kind) line pieces = if holds pieces then Ok (tt, line, pieces) else fails kind line
reads Line line pieces = Ok (line, line, pieces)
reads (Known known) line pieces = known >>= λ x. Ok (x, line, pieces)
reads (InOrder f g) line pieces = reads f line pieces >>= λ r. reads (g r.0) r.1 r.2

-- what a test says of a piece of this line
abbrev pub judged : {A : Type 0} → Result A Kind → ℕ → Result A LitmusError
judged (Ok x) line = Ok x
judged (Err kind) line = fails kind line
