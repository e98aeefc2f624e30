use Rattle.std.proofs.Common.{◌≡◌, IfSome, length}
use Rattle.std.specs.List.{AllByRecursion}
use Rattle.litmus_reader.specs.TestViews.{test_of}
use Rattle.worker_driver.specs.declared.set_up.Driver.TheVariants.{ByPolicy}
use Rattle.worker_driver.specs.Outcomes.{HasOutcome}
use Rattle.worker_driver.specs.Runs.{AreFrom}
use Rattle.worker_driver.proofs.batches.policy_runs.Given as goal

abbrev pub invariant-loop-number : goal.invariant-loop-number
invariant-loop-number l =
    (length l.runs.items ≡ l.number)
    × AreFrom (test_of l.fn.test) l.fn.config (ByPolicy l.fn.first) l.fn.limit 0 l.runs.items
    × AllByRecursion (HasOutcome (test_of l.fn.test)) l.runs.items
    × IfSome l.kept (λ system. system.config ≡ l.fn.config)
