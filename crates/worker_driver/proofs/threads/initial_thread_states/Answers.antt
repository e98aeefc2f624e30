use Rattle.std.proofs.Common.{◌++◌, [], ◌∷◌, ap₂, ◌∙◌}
use Rattle.litmus_reader.specs.TestViews.{test_of}
use Rattle.worker_driver.proofs.Rows.{next_thread}
use Rattle.worker_driver.proofs.threads.initial_thread_states.Goals as goal

pub loop-thread-preserved : goal.loop-thread-preserved
loop-thread-preserved c =
    c.in_ok-push.ensures.items ∙ ap₂ (λ xs x. xs ++ x ∷ []) c.loop-thread.invariant c.start.ensures
    ∙ next_thread (test_of c.args.test.now) c.loop-thread.thread
