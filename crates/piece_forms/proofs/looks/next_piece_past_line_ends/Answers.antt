use Rattle.std.proofs.Common.{rules}
use Rattle.litmus_lexer.specs.TokenPieces.{piece_of}
use Rattle.piece_forms.proofs.Places.{next-line}
use Rattle.piece_forms.proofs.looks.next_piece_past_line_ends.Goals as goal

pub returns-in-Some-clause-line : goal.returns-in-Some-clause-line
returns-in-Some-clause-line c = rw (
  c.in-Some.ensures.line,
  next-line c.next_piece_position-at.result.line c.args.cursor.now.pieces
      c.in-Some.after.pieces (piece_of c.in-Some.token) (search rules),
) c.next_piece_position-at.ensures.line
