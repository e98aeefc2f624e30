use Rattle.std.proofs.Common.{◌≤◌}
use Rattle.network.proofs.slots.count_full_slots_before.Given as goal

abbrev pub invariant-loop-at : goal.invariant-loop-at
invariant-loop-at l = l.count ≤ l.at
