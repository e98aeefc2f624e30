use Rattle.std.proofs.Common.{◌≡◌, drop}
use Rattle.streamed_runs.specs.Summaries.{all_counted}
use Rattle.streamed_runs.proofs.summary.Summary.count_records.Given as goal

-- what is left to be counted comes to the same
abbrev pub invariant-loop-visited : goal.invariant-loop-visited
invariant-loop-visited l = all_counted l.self (drop l.visited-index l.records) ≡ all_counted l.fn.self l.fn.records
