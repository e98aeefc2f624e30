use Rattle.std.proofs.Common.{◌≡◌, ◌+◌, ◌-◌, ◌*◌}
use Rattle.litmus_lexer.specs.declared.errors.Kind.TheVariants.{TooLarge}
use Rattle.piece_forms.specs.Forms.{many, refused}
use Rattle.piece_forms.specs.Reading.{reads}
use Rattle.litmus_parser.specs.Condition.{further, joined, part_of, chain}
use Rattle.litmus_parser.specs.TreeViews.{tree_of}
use Rattle.litmus_parser.specs.Names.{address_of}
use Rattle.litmus_parser.specs.declared.expressions.Connective.{Connective}
use Rattle.litmus_parser.specs.declared.expressions.Connective.TheVariants.{And, Or}
use Rattle.std.proofs.Common.{ℕ}
use Rattle.litmus_parser.proofs.expressions.+expression.Given as goal

-- a part of a connective is read before the next part, and a chain after both
abbrev level : Connective → ℕ
level And = 0
level Or = 3

abbrev pub decreases-expression : goal.decreases-expression
decreases-expression l = 7 * l.depth + 3 + level l.connective

abbrev pub decreases-read_next_part : goal.decreases-read_next_part
decreases-read_next_part l = 7 * l.depth + 2 + level l.connective

abbrev pub decreases-read_expression_part : goal.decreases-read_expression_part
decreases-read_expression_part l = 7 * l.depth + 1 + level l.connective

abbrev pub decreases-factor : goal.decreases-factor
decreases-factor l = 7 * l.depth

-- what is left to read is what all of it reads as
abbrev pub invariant-expression-loop : goal.invariant-expression-loop
invariant-expression-loop l =
    reads (many (refused TooLarge) (further l.fn.connective) (joined l.fn.connective
    (part_of l.fn.connective (address_of l.fn.items) l.fn.threads l.fn.depth)) (256 - l.counter)
    (tree_of l.left, (l.locations, l.atoms))) l.at.line l.at.pieces
    ≡ reads (chain l.fn.connective (part_of l.fn.connective (address_of l.fn.items) l.fn.threads l.fn.depth)
    (l.fn.locations, l.fn.atoms)) l.fn.cursor.line l.fn.cursor.pieces
