use Rattle.std.proofs.Common.{◌≡◌, ◌≤◌, List, drop, length, map}
use Rattle.litmus_reader.specs.TestViews.{test_of}
use Rattle.sequential_machine.specs.Turns.{Point}
use Rattle.sequential_ends.specs.Packed.{packed, packed_lists, IsRowOf}
use Rattle.sequential_ends.specs.Orders.{IsOrderOf, AreLed}
use Rattle.sequential_ends.specs.Rows.{rows_in}
use Rattle.sequential_ends.specs.Layers.{with_turns, has_turn}
use Rattle.sequential_ends.proofs.layers.add_successors.Given as goal

abbrev pub invariant-loop-thread : goal.invariant-loop-thread
invariant-loop-thread l =
    (length l.left ≤ length l.lists)
    × (length l.next ≤ l.room)
    × ((p : Point) → IsRowOf (test_of l.fn.test) p l.fn.row → l.left ≡ packed_lists (drop l.thread p.received))
    × ((p : Point) → IsRowOf (test_of l.fn.test) p l.fn.row → l.moved ≡ has_turn (test_of l.fn.test) p l.thread)
    × ((p : Point) (points : List Point) → IsRowOf (test_of l.fn.test) p l.fn.row →
    rows_in l.fn.next ≡ map packed points →
    rows_in l.next ≡ map packed (with_turns (test_of l.fn.test) p l.thread points))
    × ((p : Point) → IsRowOf (test_of l.fn.test) p l.fn.row →
    IsOrderOf l.fn.has_orders (test_of l.fn.test) l.fn.order p →
    AreLed l.fn.has_orders (test_of l.fn.test) l.fn.next → AreLed l.fn.has_orders (test_of l.fn.test) l.next)
