-- The shape of a row, by what stands in front of its semicolon.
use Rattle.std.specs.Prelude.{◌≡◌, ℕ, not, Bool, true, false, List, ◌∷◌, ◌++◌, length}
use Rattle.std.specs.List.{list_all, filter}
use Rattle.litmus_lexer.specs.declared.signs.TheConstants.{BAR, SEMICOLON}
use Rattle.litmus_lexer.specs.Pieces.{Piece, Sign, LineEnd}
use Rattle.piece_forms.specs.Forms.{is_sign}
use Rattle.litmus_parser.specs.Table.{ends_here}

-- no semicolon, and no end of a line
abbrev pub is_inner : Piece → Bool
is_inner LineEnd = false
is_inner piece = not (is_sign SEMICOLON piece)

-- so many bars among pieces of one line, then a semicolon, and nothing after it in the line
pub record IsShaped (bars : ℕ) (pieces : List Piece) : Type 0 where
  pub front : List Piece
  pub rest : List Piece
  pub split : pieces ≡ front ++ Sign SEMICOLON ∷ rest
  pub inner : list_all is_inner front ≡ true
  pub count : length (filter (is_sign BAR) front) ≡ bars
  pub ends : ends_here rest ≡ true
