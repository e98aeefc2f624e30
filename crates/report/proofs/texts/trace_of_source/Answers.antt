use Rattle.std.proofs.Common.{sym, subst}
use Rattle.trace_reader.specs.Causes.{TraceFault}
use Rattle.trace_reader.specs.Grammar.{IsTrace}
use Rattle.trace_reader.specs.Reading.{steps_in}
use Rattle.report.specs.Refusals.{IsUnread}
use Rattle.trace_reader.specs.Outcomes.{WantsMemory}
use Rattle.report.specs.Reports.{IsTraceFault}
use Rattle.report.proofs.Unread.{unread}
use Rattle.report.proofs.texts.trace_of_source.Goals as goal

pub returns-in-Err-clause-refused : goal.returns-in-Err-clause-refused
returns-in-Err-clause-refused g c =
    let known = g.S.Source.remaining c.args.source.now in
    subst (IsUnread (IsTraceFault known) (WantsMemory steps_in known) _ _) (sym c.trace_refusal.ensures)
    (unread IsTrace TraceFault steps_in c.in-Err.error _ _ known c.in-Err.ensures.refused c.in-Err.ensures.fault
    c.in-Err.ensures.only)
