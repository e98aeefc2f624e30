use Rattle.std.proofs.Common.{◌≡◌, ℕ, ◌+◌, ◌-◌, ◌*◌, ◌^◌, ◌<◌, ◌≤◌, length, map, min}
use Rattle.litmus_reader.specs.TestViews.{test_of}
use Rattle.sequential_ends.specs.Packed.{packed}
use Rattle.sequential_ends.specs.Layers.{layer, ends_before, states_before, kept_at}
use Rattle.sequential_ends.specs.Orders.{AreLed, AreEndOrders}
use Rattle.sequential_ends.specs.Rows.{rows_in}
use Rattle.sequential_ends.proofs.ends.list_ends.Given as goal

abbrev pub invariant-loop-alloc : goal.invariant-loop-alloc
invariant-loop-alloc l = record {
  layer_is : rows_in l.layer ≡ map packed (layer (test_of l.test) l.turns);
  rows_are : rows_in l.rows ≡ ends_before (test_of l.test) l.turns;
  states_are : l.states ≡ min (states_before (test_of l.test) l.turns) (2 ^ 64 - 1);
  led : AreLed l.has_orders (test_of l.test) l.layer;
  orders : AreEndOrders l.has_orders (test_of l.test) l.rows;
  few : length l.layer ≤ l.most_states;
  kept : (j : ℕ) → j < l.turns → kept_at (test_of l.test) j ≤ l.most_states;
}

abbrev pub decreases-loop-alloc : goal.decreases-loop-alloc
decreases-loop-alloc l = (test_of l.test).threads * length (test_of l.test).cells + 1 - l.turns
