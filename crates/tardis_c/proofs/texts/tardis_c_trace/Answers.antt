use Rattle.std.proofs.Common.{Some, subst, sym}
use Rattle.report.specs.Reports.{HasNoTraceReport, IsTraceReport}
use Rattle.run_options.specs.declared.options.TraceOptions.{TraceOptions}
use Rattle.worker_driver.specs.SetUp.{FollowsPolicy}
use Rattle.tardis_c.specs.Answers.{IsTold}
use Rattle.tardis_c.specs.Options.{is_set}
use Rattle.tardis_c.proofs.Told.{follows_a_policy, told}
use Rattle.tardis_c.proofs.texts.tardis_c_trace.Goals as goal

pub trace_report-came-requires : goal.trace_report-came-requires
trace_report-came-requires c =
    subst (λ (options : TraceOptions). FollowsPolicy options.run) (sym c.trace_options.ensures)
    (follows_a_policy (is_set c.args.options.now.by_seed) (is_set c.args.options.now.fair) c.args.options.now.seed)

pub returns : goal.returns
returns c =
    let text = Some c.args.text.now in
    let came = c.trace_report-came in
    subst (λ (o : TraceOptions). IsTold (IsTraceReport o text) (HasNoTraceReport o text) c.args.buffer.now
    c.write_result.new.buffer c.write_result.new.long c.write_result.result) c.trace_options.ensures
    (told _ _ came.result _ _ _ _ came.ensures.report came.ensures.refused c.write_result.ensures)
