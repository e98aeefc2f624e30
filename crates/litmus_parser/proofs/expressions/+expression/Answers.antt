use Rattle.std.proofs.Common.{rules}
use Rattle.std.proofs.lemmas.Result.{err_from_is_err_and}
use Rattle.piece_forms.proofs.Lemmas.{until-fails, until-goes, until-stops, until-out}
use Rattle.litmus_parser.specs.Names.{address_of}
use Rattle.litmus_parser.proofs.ConditionSteps.{paren-fails}
use Rattle.litmus_parser.proofs.expressions.+expression.Goals as goal

pub expression-returns-in_err-more : goal.expression-returns-in_err-more
expression-returns-in_err-more t c =
    let p = err_from_is_err_and c.from_residual-in_err-more.result c.from_residual-in_err-more.ensures.1 in
    rw (p.1, p.2) (until-fails _ _ 256 c.loop.counter _ _ _ _ _ c.loop-test.true c.in_err-more.ensures c.loop.invariant)

pub expression-returns-then-not-more : goal.expression-returns-then-not-more
expression-returns-then-not-more t c =
    until-stops _ _ 256 c.loop.counter _ _ _ _ _ _ _ c.loop-test.true (search rules) c.loop.invariant

pub expression-loop-preserved : goal.expression-loop-preserved
expression-loop-preserved t c =
    until-goes _ _ 256 c.loop.counter _ _ _ _ _ _ _ c.loop-test.true (search rules) c.loop.invariant

pub expression-returns : goal.expression-returns
expression-returns t c =
    rw c.fault.ensures (until-out _ _ 256 c.loop.counter _ _ _ _ c.loop-test.false c.loop.invariant)

pub factor-returns-in_err-after-in-None : goal.factor-returns-in_err-after-in-None
factor-returns-in_err-after-in-None t c =
    let p = err_from_is_err_and c.from_residual-in_err-after-in-None.result
    c.from_residual-in_err-after-in-None.ensures.1 in
    rw (p.1, p.2) (paren-fails (address_of c.args.items.now) c.args.threads c.args.depth
    (c.args.locations.now, c.args.atoms) _ _ _ c.args.cursor.line _ _ c.args.cursor.pieces _ _ _ (search rules)
    (search rules) c.in_ok-inner-in-None.ensures c.in_err-after-in-None.ensures.read)
