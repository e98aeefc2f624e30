use Rattle.std.proofs.Common.{rules}
use Rattle.std.proofs.lemmas.Result.{err_from_is_err_and}
use Rattle.litmus_parser.proofs.ConditionSteps.{start-fails}
use Rattle.litmus_parser.proofs.atoms.read_factor_start.Goals as goal

pub returns-in_err-start-in-Some-Word-default-clause-read : goal.returns-in_err-start-in-Some-Word-default-clause-read
returns-in_err-start-in-Some-Word-default-clause-read c =
    let p = err_from_is_err_and c.from_residual.result c.from_residual.ensures.1 in
    rw (p.1, p.2) (start-fails c.args.threads c.args.depth c.args.atoms c.args.cursor.line c.args.locations.now
    c.args.cursor.pieces c.in-Some-Word-default.word.now _ _ (search rules)
    c.next_piece.ensures.line c.next_piece.ensures.rest _ c.in_err-start-in-Some-Word-default.ensures)
