-- What the code's values stand for, as reading gives it.
use Rattle.std.specs.Prelude.{ℕ, List}
use Rattle.litmus_lexer.specs.Pieces.{Piece}
use Rattle.litmus_lexer.specs.Positions.{TextPosition}

-- what is read, and the position after it
abbrev pub view_read : {X : Type 0} → X × TextPosition → X × ℕ × List Piece
view_read read = (read.0, read.1.line, read.1.pieces)

-- the same, with a view of what is read
abbrev pub view_as : {X Y : Type 0} → (X → Y) → X × TextPosition → Y × ℕ × List Piece
view_as view read = (view read.0, read.1.line, read.1.pieces)
