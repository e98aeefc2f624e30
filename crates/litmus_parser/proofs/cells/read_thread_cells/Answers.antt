use Rattle.std.proofs.Common.{◌≡◌, ◌-◌, ℕ, ◌∙◌, ap, arith, refl, Ok}
use Rattle.std.proofs.lemmas.Result.{err_from_is_err_and}
use Rattle.piece_forms.proofs.Lemmas.{until-fails, until-goes, until-out}
use Rattle.litmus_parser.proofs.TableSteps.{column-goes, column-fails}
use Rattle.litmus_parser.proofs.cells.read_thread_cells.Goals as goal

pub loop-thread-init : goal.loop-thread-init
loop-thread-init c = let z : c.args.threads - 0 ≡ c.args.threads = omega arith in rw z refl

pub returns-in_err-kept : goal.returns-in_err-kept
returns-in_err-kept c =
    let p = err_from_is_err_and c.from_residual.result c.from_residual.ensures.1 in
    rw (p.1, p.2) (until-fails _ _ c.args.threads c.loop-thread.thread _ _ _ _ _ c.loop-thread-test.true
    (column-fails _ _ _ _ _ _ c.in_err-kept.ensures) c.loop-thread.invariant)

pub loop-thread-preserved : goal.loop-thread-preserved
loop-thread-preserved c =
    until-goes _ _ c.args.threads c.loop-thread.thread _ _ _ _ _ _ _ c.loop-thread-test.true
    (column-goes _ _ _ _ _ _ c.in_ok-kept.ensures) c.loop-thread.invariant

pub returns : goal.returns
returns c =
    let last : c.loop-thread.thread ≡ c.args.threads =
    omega (arith, c.loop-thread-test.false, c.loop-thread.auto.thread-end) in
    until-out _ _ c.args.threads c.loop-thread.thread _ _ _ _ c.loop-thread-test.false c.loop-thread.invariant
    ∙ ap (λ (n : ℕ). Ok (
      (n, (c.loop-thread.cells.items, c.loop-thread.width)),
      c.loop-thread.at.line,
      c.loop-thread.at.pieces,
    )) last
