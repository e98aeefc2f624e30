use Rattle.std.proofs.Common.{◌≡◌, length}
use Rattle.std.specs.List.{AllByRecursion}
use Rattle.litmus_reader.specs.TestViews.{test_of}
use Rattle.worker_driver.specs.declared.set_up.Driver.TheVariants.{ByThreads}
use Rattle.worker_driver.specs.Outcomes.{HasOutcome}
use Rattle.worker_driver.specs.Runs.{AreFrom}
use Rattle.worker_driver.proofs.threads.threaded_runs.Given as goal

abbrev pub invariant-loop : goal.invariant-loop
invariant-loop g l =
    (length l.runs.items ≡ l.counter)
    × AreFrom (test_of l.fn.test) l.fn.config (ByThreads l.fn.fair) l.fn.limit 0 l.runs.items
    × AllByRecursion (HasOutcome (test_of l.fn.test)) l.runs.items
