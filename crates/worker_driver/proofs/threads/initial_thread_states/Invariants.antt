use Rattle.std.proofs.Common.{◌≡◌}
use Rattle.litmus_reader.specs.TestViews.{test_of}
use Rattle.worker_driver.specs.Runs.{threads_from}
use Rattle.worker_driver.proofs.threads.initial_thread_states.Given as goal

abbrev pub invariant-loop-thread : goal.invariant-loop-thread
invariant-loop-thread l = l.threads.items ≡ threads_from (test_of l.fn.test) 0 l.thread
