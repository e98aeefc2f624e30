-- Places in a text: the piece that stands next, and what stands in front.
use Rattle.std.specs.Prelude.{ℕ, ◌+◌, List, [], ◌∷◌, Option, Some, None}
use Rattle.litmus_lexer.specs.Pieces.{Piece, LineEnd}

-- where a look goes: to the next piece behind the line ends that come first, or to the first piece, which may be one
pub data Where : Type 0 where
  Beyond : Where
  InLine : Where

-- ---- in the line

-- the first piece, if there is one
abbrev pub first_piece : List Piece → Option Piece
first_piece [] = None
first_piece (piece ∷ pieces) = Some piece

-- what follows it, and in which line
abbrev pub behind_first : List Piece → List Piece
behind_first [] = []
behind_first (piece ∷ pieces) = pieces

abbrev pub line_behind_first : ℕ → List Piece → ℕ
line_behind_first line (LineEnd ∷ pieces) = line + 1
line_behind_first line pieces = line

-- ---- behind line ends

-- the pieces from the next one on
unfoldable pub from_next : List Piece → List Piece
from_next (LineEnd ∷ pieces) = from_next pieces
from_next pieces = pieces

-- how many lines end before it, or before the end of the text
unfoldable pub ends_ahead : List Piece → ℕ
ends_ahead (LineEnd ∷ pieces) = 1 + ends_ahead pieces
ends_ahead pieces = 0

-- ---- where the look goes

-- the pieces from the one that is seen on, and their line
abbrev pub from : Where → List Piece → List Piece
from Beyond pieces = from_next pieces
from InLine pieces = pieces

abbrev pub line_of : Where → ℕ → List Piece → ℕ
line_of Beyond line pieces = line + ends_ahead pieces
line_of InLine line pieces = line

-- the piece that is seen, if there is one, and what follows it, and in which line
abbrev pub seen : Where → List Piece → Option Piece
seen place pieces = first_piece (from place pieces)

abbrev pub behind : Where → List Piece → List Piece
behind place pieces = behind_first (from place pieces)

abbrev pub line_behind : Where → ℕ → List Piece → ℕ
line_behind Beyond line pieces = line + ends_ahead pieces
line_behind InLine line pieces = line_behind_first line pieces
