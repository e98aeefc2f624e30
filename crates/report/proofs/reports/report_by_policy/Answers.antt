use Rattle.std.proofs.Common.{true, false, None, Some, refl, sym, subst, ◌∙◌}
use Rattle.std.proofs.lemmas.Result.{IfOk-weaker}
use Rattle.event_counts.specs.Counting.{Counter, counter_events}
use Rattle.worker_driver.specs.declared.set_up.Driver.TheVariants.{ByPolicy}
use Rattle.report.specs.Runs.{IsWatched}
use Rattle.report.proofs.Told.{told_run}
use Rattle.report.proofs.reports.report_by_policy.Goals as goal

pub report_on_trace_run-requires : goal.report_on_trace_run-requires
report_on_trace_run-requires c =
    let is = c.in_ok-ran.ensures.run in
    record { shows = (c.in_ok-ran.ran.machine, refl, is.complete, is.legal_in_trace) }

pub report_on_trace_run-requires-2 : goal.report_on_trace_run-requires-2
report_on_trace_run-requires-2 c =
    let is = c.in_ok-ran-2.ensures.run in
    record { shows = (c.in_ok-ran-2.ran.machine, refl, is.complete, is.legal_in_trace) }

pub returns-then-are_counts_asked : goal.returns-then-are_counts_asked
returns-then-are_counts_asked c =
    let options = c.args.options.now in
    let lanes = c.args.trace.now in
    let ran = c.in_ok-ran.ran in
    let limit = c.limit_of-limit.result in
    let last : Counter = c.in_ok-ran.counter.seen in
    let watched = subst (λ (k : Counter). IsWatched counter_events k c.args.policy limit c.args.config lanes ran.end
    ran.machine last) c.in_ok-counter.ensures c.in_ok-ran.ensures.watched in
    IfOk-weaker c.report_on_trace_run.result _ _ (λ report told.
    told_run options lanes c.args.config (ByPolicy c.args.policy) limit ran.end ran.machine true (Some last)
    c.requires.good c.requires.config c.requires.policy c.limit_of-limit.ensures.limit
    (sym c.are_counts_asked.ensures ∙ c.if-are_counts_asked.true) c.in_ok-ran.ensures.run (last, refl, watched) report
    (told ran.machine refl)) c.report_on_trace_run.ensures

pub returns : goal.returns
returns c =
    let ran = c.in_ok-ran-2.ran in
    IfOk-weaker c.report_on_trace_run-2.result _ _ (λ report told.
    told_run c.args.options.now c.args.trace.now c.args.config (ByPolicy c.args.policy) c.limit_of-limit.result ran.end
    ran.machine false None c.requires.good c.requires.config c.requires.policy c.limit_of-limit.ensures.limit
    (sym c.are_counts_asked.ensures ∙ c.if-are_counts_asked.false) c.in_ok-ran-2.ensures.run refl report
    (told ran.machine refl)) c.report_on_trace_run-2.ensures
