use Rattle.std.proofs.Common.{rules}
use Rattle.std.proofs.lemmas.Result.{err_from_is_err_and}
use Rattle.litmus_parser.specs.Words.{value}
use Rattle.litmus_parser.proofs.ConditionSteps.{word-fails}
use Rattle.litmus_parser.proofs.items.read_value.Goals as goal

pub returns-in_err-value-in-Some-Word-default : goal.returns-in_err-value-in-Some-Word-default
returns-in_err-value-in-Some-Word-default c =
    let p = err_from_is_err_and c.from_residual.result c.from_residual.ensures.1 in
    rw (p.1, p.2) (word-fails c.args.kind (value c.args.kind) c.args.cursor.line c.args.cursor.pieces
    c.in-Some-Word-default.word.now _ (search rules) c.next_piece.ensures.line _
    c.in_err-value-in-Some-Word-default.ensures)
