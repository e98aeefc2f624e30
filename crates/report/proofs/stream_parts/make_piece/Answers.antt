use Rattle.std.proofs.Common.{sym, subst}
use Rattle.report.specs.Refusals.{IsUnread}
use Rattle.report.specs.Streams.{IsStreamFault}
use Rattle.report.proofs.StreamedPieces.{next_running, or_memory}
use Rattle.report.proofs.stream_parts.make_piece.Goals as goal

pub returns-in-Ok-clause-runs : goal.returns-in-Ok-clause-runs
returns-in-Ok-clause-runs g c = λ options known r.
    next_running options known c.args.run.now c.run_next_piece.new.self (g.S.Source.remaining c.args.source.now)
    (g.S.Source.remaining c.run_next_piece.new.source) r c.in-Ok.ensures.same c.in-Ok.ensures.went c.in-Ok.ensures.end

pub returns-in-Err-clause-refused : goal.returns-in-Err-clause-refused
returns-in-Err-clause-refused g c = λ options known r.
    let old = g.S.Source.failures c.args.source.now in
    let new = g.S.Source.failures c.run_next_piece.new.source in
    subst (IsUnread (IsStreamFault options.cores known) (Unit {0}) old new) (sym c.ahead_refusal.ensures)
    (or_memory options known (g.S.Source.remaining c.args.source.now) (g.S.Source.remaining c.run_next_piece.new.source)
    c.args.run.now c.run_next_piece.new.self.ahead.stream old new c.in-Err.error r c.in-Err.ensures.stops)
