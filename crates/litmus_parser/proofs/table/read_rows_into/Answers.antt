use Rattle.std.proofs.Common.{rules}
use Rattle.std.proofs.lemmas.Result.{err_from_is_err_and}
use Rattle.piece_forms.proofs.Lemmas.{until-fails, until-goes, until-stops, until-out}
use Rattle.litmus_parser.proofs.table.read_rows_into.Goals as goal

pub returns-in_err-more : goal.returns-in_err-more
returns-in_err-more c =
    let p = err_from_is_err_and c.from_residual.result c.from_residual.ensures.1 in
    rw (p.1, p.2) (until-fails _ _ 1025 c.loop.counter _ _ _ _ _ c.loop-test.true c.in_err-more.ensures.read
    c.loop.invariant.left)

pub returns-then-not-more : goal.returns-then-not-more
returns-then-not-more c =
    until-stops _ _ 1025 c.loop.counter _ _ _ _ _ _ _ c.loop-test.true (search rules) c.loop.invariant.left

pub loop-preserved : goal.loop-preserved
loop-preserved c = record {
  left = until-goes _ _ 1025 c.loop.counter _ _ _ _ _ _ _ c.loop-test.true (search rules) c.loop.invariant.left;
  few = search rules;
}

pub returns : goal.returns
returns c = rw c.fault.ensures (until-out _ _ 1025 c.loop.counter _ _ _ _ c.loop-test.false c.loop.invariant.left)
