use Rattle.piece_forms.proofs.Places.{from-past}
use Rattle.piece_forms.proofs.looks.next_piece_position.Goals as goal

pub returns-clause-rest : goal.returns-clause-rest
returns-clause-rest c =
    rw c.past_line_ends.ensures (from-past c.args.cursor.now.line c.args.cursor.now.pieces).0

pub returns-clause-line : goal.returns-clause-line
returns-clause-line c =
    rw c.past_line_ends.ensures (from-past c.args.cursor.now.line c.args.cursor.now.pieces).1
