use Rattle.std.specs.FinMap.{empty}
use Rattle.streamed_runs.proofs.EndedRuns.{is_first}
use Rattle.streamed_runs.proofs.streamed_run.StreamedRun.new.Goals as goal

pub returns-clause-going : goal.returns-clause-going
returns-clause-going c =
    let a = c.args in let law = c.nothing_is_done_at_first.ensures in let none = c.in_ok-ahead.ensures.none in
    is_first law.begins a.config (law.idle a.config empty) c.requires.good a.policy a.limit c.in_ok-ahead.ahead none.0
    none.1 none.2 c.in_ok-system.system c.new-2.result c.new-4.result c.new-3.result.items c.in_ok-system.ensures
    c.new-2.ensures c.new-4.ensures c.new-3.ensures.items
