-- Reading from left to right, with the first fault that is met.
use Rattle.std.specs.Prelude.{◌≡◌, ℕ, List, Result, Ok, Err}
use Rattle.litmus_lexer.specs.Pieces.{Piece}
use Rattle.litmus_lexer.specs.declared.errors.Kind.{Kind}
use Rattle.litmus_lexer.specs.declared.errors.LitmusError.{LitmusError}
use Rattle.litmus_lexer.specs.declared.errors.ReadError.{ReadError}
use Rattle.litmus_lexer.specs.declared.errors.ReadError.TheVariants.{Memory, Fault}

-- What a function returned, seen by view, is what reading gives, unless memory ran out.
abbrev pub Fails : {Y : Type 0} → ReadError → Result Y LitmusError → Type 0
Fails Memory read = Unit {0}
Fails (Fault f) read = read ≡ Err f

abbrev pub Gives : {X Y : Type 0} → (X → Y) → Result X ReadError → Result Y LitmusError → Type 0
Gives view (Ok x) read = read ≡ Ok (view x)
Gives view (Err e) read = Fails e read

-- What is read, and the line and the pieces that follow it.
abbrev pub Read : Type 0 → Type 0
Read X = Result (X × ℕ × List Piece) LitmusError

-- a fault of this kind in this line
abbrev pub fault_at : Kind → ℕ → LitmusError
fault_at kind line = record { line = line; kind = kind }

abbrev pub fails : {A : Type 0} → Kind → ℕ → Result A LitmusError
fails kind line = Err (fault_at kind line)
