use Rattle.std.proofs.Common.{◌-◌, ◌≡◌, ◌≤◌, ℕ, max, length}
use Rattle.std.specs.Prelude.{vec_capacity}
use Rattle.trace_reader.specs.Steps.{lane}
use Rattle.trace_reader.proofs.traces.extend_lanes.Given as goal

-- lanes without steps were added
abbrev pub invariant-loop-alloc : goal.invariant-loop-alloc
invariant-loop-alloc l = record {
  same : (k : ℕ) → lane l.lanes.items k ≡ lane l.fn.lanes.items k;
  more : length l.fn.lanes.items ≤ length l.lanes.items;
  few : length l.lanes.items ≤ max l.number (length l.fn.lanes.items);
  capacity : vec_capacity l.lanes ≡ vec_capacity l.fn.lanes;
}

abbrev pub decreases-loop-alloc : goal.decreases-loop-alloc
decreases-loop-alloc l = l.number - length l.lanes.items
