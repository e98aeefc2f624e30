use Rattle.std.proofs.Common.{◌≡◌, drop}
use Rattle.litmus_reader.specs.TestViews.{test_of}
use Rattle.sequential_machine.specs.Turns.{Point, threads_at}
use Rattle.sequential_ends.specs.Packed.{packed_lists, IsRowOf}
use Rattle.sequential_ends.proofs.layers.values_at_point.Given as goal

abbrev pub invariant-loop-thread : goal.invariant-loop-thread
invariant-loop-thread l =
    (p : Point) → IsRowOf (test_of l.fn.test) p l.fn.row →
    (l.left ≡ packed_lists (drop l.thread p.received)) × (l.threads.items ≡ threads_at (test_of l.fn.test) p l.thread)
