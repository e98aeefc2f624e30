use Rattle.std.proofs.Common.{sym, subst}
use Rattle.trace_reader.specs.Causes.{RecordFault}
use Rattle.trace_reader.specs.Grammar.{AreRecords}
use Rattle.trace_reader.specs.Reading.{records_in}
use Rattle.report.specs.Refusals.{IsUnread}
use Rattle.trace_reader.specs.Outcomes.{WantsMemory}
use Rattle.report.specs.Verdicts.{IsRecordsFault}
use Rattle.report.proofs.Unread.{unread}
use Rattle.report.proofs.texts.records_of_source.Goals as goal

pub returns-in-Err-clause-refused : goal.returns-in-Err-clause-refused
returns-in-Err-clause-refused g c =
    let known = g.S.Source.remaining c.args.source.now in
    subst (IsUnread (IsRecordsFault known) (WantsMemory records_in known) _ _) (sym c.trace_refusal.ensures)
    (unread AreRecords RecordFault records_in c.in-Err.error _ _ known c.in-Err.ensures.refused c.in-Err.ensures.fault
    c.in-Err.ensures.only)
