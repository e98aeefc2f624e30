-- A position in a text: the pieces that are left, and the line in which they begin.
use Rattle.std.specs.Prelude.{ℕ, ◌+◌, List, [], ◌∷◌}
use Rattle.litmus_lexer.specs.Pieces.{Piece, Word, Sign, LineEnd}

pub record TextPosition : Type 0 where
  pub line : ℕ
  pub pieces : List Piece

-- the line after a piece of this line
abbrev pub line_after : Piece → ℕ → ℕ
line_after LineEnd line = line + 1
line_after (Word w) line = line
line_after (Sign b) line = line

-- the position after the line ends that come next
unfoldable pub past_line_ends : ℕ → List Piece → TextPosition
past_line_ends line [] = record { line = line; pieces = [] }
past_line_ends line (LineEnd ∷ pieces) = past_line_ends (line + 1) pieces
past_line_ends line (Word w ∷ pieces) = record { line = line; pieces = Word w ∷ pieces }
past_line_ends line (Sign b ∷ pieces) = record { line = line; pieces = Sign b ∷ pieces }
