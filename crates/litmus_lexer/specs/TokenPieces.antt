-- The pieces that the code's tokens are.
use Rattle.litmus_lexer.specs.Pieces.{Piece, Word, Sign, LineEnd}
use Rattle.litmus_lexer.specs.declared.tokens.Token.{Token}
use Rattle.litmus_lexer.specs.declared.tokens.Token.TheVariants as token

abbrev pub piece_of : Token → Piece
piece_of (token.Word w) = Word w.now
piece_of (token.Sign b) = Sign b
piece_of token.LineEnd = LineEnd
