use Rattle.std.proofs.Common.{List, [], ◌∷◌, ◌++◌, ap, ap₂, ◌∙◌, arith}
use Rattle.litmus_reader.specs.TestViews.{test_of}
use Rattle.litmus_reader.specs.ThreadSteps.{Thread}
use Rattle.sequential_machine.specs.Turns.{resumed, thread_started}
use Rattle.sequential_ends.proofs.Packing.{list_next, threads_next}
use Rattle.sequential_ends.proofs.layers.values_at_point.Goals as goal

pub loop-thread-preserved : goal.loop-thread-preserved
loop-thread-preserved c = λ p is.
    let test = test_of c.args.test.now in
    let t = c.loop-thread.thread in
    let lt = c.loop-thread-test.true in
    let end = c.threads-thread-end.ensures.count in
    let many = is.1 in
    let parts = c.split_first_list-in-loop-thread.ensures.split _ _ ((c.loop-thread.invariant p is).0
    ∙ list_next p.received t (omega (arith, lt, end, many))) in (
      parts.1,
      c.in_ok-push.ensures.items ∙ ap₂ (λ (xs : List Thread) (x : Thread). xs ++ x ∷ [])
          (c.loop-thread.invariant p is).1
          (c.thread_after_received.ensures ∙ ap (resumed (thread_started test t)) parts.0) ∙ threads_next test p t,
    )
