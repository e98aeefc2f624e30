use Rattle.std.proofs.Common.{IfOk, subst}
use Rattle.report.specs.Openings.{IsOpenedReport}
use Rattle.tardis_c.specs.Options.{is_set}
use Rattle.tardis_c.proofs.Told.{told}
use Rattle.tardis_c.proofs.texts.tardis_c_check_opened.Goals as goal

pub returns : goal.returns
returns c =
    let report = subst (λ layout. IfOk c.opened_report-came.result (λ report.
    IsOpenedReport (is_set c.args.complete) layout c.args.opening.now c.args.trace.now c.args.records.now
    report.all_done report.text.items)) c.layout_of-layout.ensures c.opened_report-came.ensures.report in
    told _ _ c.opened_report-came.result _ _ _ _ report c.opened_report-came.ensures.refused c.write_result.ensures
