use Rattle.std.proofs.Common.{◌≡◌}
use Rattle.test_parts.proofs.slots.are_given_back.Given as goal

abbrev pub invariant-loop-slots : goal.invariant-loop-slots
invariant-loop-slots l = (l.flight.cores ≡ 2) × (l.flight.banks ≡ 1)
