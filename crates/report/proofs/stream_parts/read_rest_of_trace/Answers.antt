use Rattle.std.proofs.Common.{sym, subst}
use Rattle.report.specs.Refusals.{IsUnread}
use Rattle.report.specs.Streams.{IsStreamFault}
use Rattle.report.proofs.StreamedPieces.{has_run, next_refused}
use Rattle.report.proofs.stream_parts.read_rest_of_trace.Goals as goal

pub returns-in-Ok-clause-ended : goal.returns-in-Ok-clause-ended
returns-in-Ok-clause-ended g c = λ options known r over.
    has_run options known c.args.run.now c.read_rest_of_text.new.self (g.S.Source.remaining c.args.source.now)
    (g.S.Source.remaining c.read_rest_of_text.new.source) r c.in-Ok.ensures.same
    (λ taken going. c.in-Ok.ensures.ended taken going over) c.in-Ok.ensures.end

pub returns-in-Err-clause-refused : goal.returns-in-Err-clause-refused
returns-in-Err-clause-refused g c = λ options known r.
    let old = g.S.Source.failures c.args.source.now in
    let new = g.S.Source.failures c.read_rest_of_text.new.source in
    subst (IsUnread (IsStreamFault options.cores known) (Unit {0}) old new) (sym c.ahead_refusal.ensures)
    (next_refused options known (g.S.Source.remaining c.args.source.now)
    (g.S.Source.remaining c.read_rest_of_text.new.source) c.args.run.now c.read_rest_of_text.new.self.ahead.stream
    old new c.in-Err.error r c.in-Err.ensures.stops)
