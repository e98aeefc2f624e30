use Rattle.std.proofs.Common.{◌≡◌, length}
use Rattle.litmus_lexer.specs.Pieces.{pieces_of}
use Rattle.litmus_parser.specs.Table.{has_shape}
use Rattle.litmus_parser.proofs.cells.has_row_shape.Given as goal

abbrev pub invariant-loop-token : goal.invariant-loop-token
invariant-loop-token l = has_shape l.left (pieces_of l.rest) ≡ has_shape l.fn.bars (pieces_of l.fn.text)

abbrev pub decreases-loop-token : goal.decreases-loop-token
decreases-loop-token l = length l.rest
