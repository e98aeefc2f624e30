use Rattle.std.proofs.Common.{◌≡◌, length}
use Rattle.litmus_lexer.specs.Positions.{past_line_ends}
use Rattle.litmus_lexer.proofs.cursor.Cursor.past_line_ends.Given as goal

abbrev pub invariant-loop-token : goal.invariant-loop-token
invariant-loop-token l = past_line_ends l.at.line l.at.pieces ≡ past_line_ends l.fn.self.line l.fn.self.pieces

abbrev pub decreases-loop-token : goal.decreases-loop-token
decreases-loop-token l = length l.at.pieces
