use Rattle.std.proofs.Common.{rules, suc, refl, sym, ap, ◌∙◌, arith}
use Rattle.std.proofs.lemmas.Result.{err_from_is_err_and}
use Rattle.text_lines.specs.Lines.{behind_line_feed}
use Rattle.piece_forms.proofs.Lemmas.{until-fails, until-goes, until-stops, until-out}
use Rattle.litmus_parser.proofs.TextPieces.{behind-suc}
use Rattle.litmus_parser.proofs.headers.read_header_lines.Goals as goal

pub loop-init : goal.loop-init
loop-init c = record { read = refl; body = (0, omega arith, refl) }

pub returns-in_err-more-clause-read : goal.returns-in_err-more-clause-read
returns-in_err-more-clause-read c =
    let p = err_from_is_err_and c.from_residual.result c.from_residual.ensures.1 in
    rw (p.1, p.2) (until-fails _ _ 65536 c.loop.counter _ _ _ _ _ c.loop-test.true c.in_err-more.ensures.read
    c.loop.invariant.read)

pub returns-then-not-more-clause-read : goal.returns-then-not-more-clause-read
returns-then-not-more-clause-read c =
    rw (sym (c.in_ok-more.ensures.block (search rules))) (until-stops _ _ 65536 c.loop.counter _ _ _ _ _ _ _
    c.loop-test.true (search rules) c.loop.invariant.read)

pub returns-then-not-more-clause-body : goal.returns-then-not-more-clause-body
returns-then-not-more-clause-body c =
    let same = c.in_ok-more.ensures.same (search rules) in
    let body = c.loop.invariant.body in
    (body.0, same.0 ∙ body.1, same.1 ∙ body.2)

pub loop-preserved : goal.loop-preserved
loop-preserved c =
    let next = c.in_ok-more.ensures.next (search rules) in
    let body = c.loop.invariant.body in
    let line = body.1 in
    let later = next.0 in
    record {
      read = until-goes _ _ 65536 c.loop.counter _ _ _ _ _ _ _ c.loop-test.true (search rules) c.loop.invariant.read;
      body = (
        suc body.0,
        omega (arith, line, later),
        next.1 ∙ ap behind_line_feed body.2 ∙ sym (behind-suc body.0 c.args.cursor.rest.now),
      );
    }

pub returns-clause-read : goal.returns-clause-read
returns-clause-read c =
    rw c.fault.ensures (until-out _ _ 65536 c.loop.counter _ _ _ _ c.loop-test.false c.loop.invariant.read)
