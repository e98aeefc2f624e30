use Rattle.report.proofs.reports.run_and_report_trace.Goals as goal

pub returns-in-ByPolicy : goal.returns-in-ByPolicy
returns-in-ByPolicy g c = c.report_by_policy.ensures

pub returns-in-ByThreads : goal.returns-in-ByThreads
returns-in-ByThreads g c = c.report_by_threads.ensures
