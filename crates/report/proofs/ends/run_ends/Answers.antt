use Rattle.std.proofs.lemmas.Result.{err_from_is_err_and}
use Rattle.report.proofs.Refused.{unlisted, unlisted_in_memory}
use Rattle.report.proofs.ends.run_ends.Goals as goal

pub returns-in_err-bytes-clause-refused : goal.returns-in_err-bytes-clause-refused
returns-in_err-bytes-clause-refused g c =
    let p = err_from_is_err_and c.from_residual.result c.from_residual.ensures.1 in
    rw (p.1, p.2) (λ read write. unlisted (g.S.Source.remaining c.args.source.now) c.args.options.now _ _ _
    c.in_err-bytes.ensures.none read)

pub returns-in_err-report-clause-refused : goal.returns-in_err-report-clause-refused
returns-in_err-report-clause-refused g c =
    let p = err_from_is_err_and c.from_residual-in_err-report.result c.from_residual-in_err-report.ensures.1 in
    rw (p.1, p.2) (λ read write. unlisted_in_memory (g.S.Source.remaining c.args.source.now) c.args.options.now
    c.in_ok-bytes.bytes.items _ c.in_err-report.field-0.0 c.in_ok-bytes.ensures.all c.deref.ensures.value
    c.in_err-report.ensures.refused)
