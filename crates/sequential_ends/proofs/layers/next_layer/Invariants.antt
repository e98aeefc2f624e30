use Rattle.std.proofs.Common.{◌≡◌, ◌≤◌, List, length, map, take}
use Rattle.litmus_reader.specs.TestViews.{test_of}
use Rattle.sequential_machine.specs.Turns.{Point}
use Rattle.sequential_ends.specs.Packed.{packed, AreRowsOf}
use Rattle.sequential_ends.specs.Orders.{AreLed, AreEndOrders}
use Rattle.sequential_ends.specs.Rows.{rows_in}
use Rattle.sequential_ends.specs.Layers.{behind, with_ends}
use Rattle.sequential_ends.proofs.layers.next_layer.Given as goal

abbrev pub invariant-loop-number : goal.invariant-loop-number
invariant-loop-number l =
    (length l.next ≤ l.room)
    × ((points : List Point) → AreRowsOf (test_of l.fn.test) points (rows_in l.fn.layer) →
    rows_in l.next ≡ map packed (behind (test_of l.fn.test) (take l.number points)))
    × ((points : List Point) → AreRowsOf (test_of l.fn.test) points (rows_in l.fn.layer) →
    rows_in l.ends ≡ with_ends (test_of l.fn.test) (rows_in l.fn.ends) (take l.number points))
    × (AreLed l.fn.has_orders (test_of l.fn.test) l.fn.layer → AreLed l.fn.has_orders (test_of l.fn.test) l.next)
    × (AreLed l.fn.has_orders (test_of l.fn.test) l.fn.layer →
    AreEndOrders l.fn.has_orders (test_of l.fn.test) l.fn.ends →
    AreEndOrders l.fn.has_orders (test_of l.fn.test) l.ends)
