use Rattle.std.proofs.Common.{rules}
use Rattle.std.proofs.lemmas.Result.{err_from_is_err_and}
use Rattle.piece_forms.proofs.Lemmas.{until-fails, until-goes, until-stops, until-out}
use Rattle.litmus_parser.proofs.table.read_later_headings.Goals as goal

pub returns-in_err-more-clause-read : goal.returns-in_err-more-clause-read
returns-in_err-more-clause-read c =
    let p = err_from_is_err_and c.from_residual.result c.from_residual.ensures.1 in
    rw (p.1, p.2) (until-fails _ _ 16 c.loop.counter _ _ _ _ _ c.loop-test.true c.in_err-more.ensures.read
    c.loop.invariant.left)

pub returns-then-not-more-clause-read : goal.returns-then-not-more-clause-read
returns-then-not-more-clause-read c =
    until-stops _ _ 16 c.loop.counter _ _ _ _ _ _ _ c.loop-test.true (search rules) c.loop.invariant.left

pub loop-preserved : goal.loop-preserved
loop-preserved c = record {
  left = until-goes _ _ 16 c.loop.counter _ _ _ _ _ _ _ c.loop-test.true (search rules) c.loop.invariant.left;
  few = search rules;
}

pub returns-clause-read : goal.returns-clause-read
returns-clause-read c =
    rw c.fault.ensures (until-out _ _ 16 c.loop.counter _ _ _ _ c.loop-test.false c.loop.invariant.left)
