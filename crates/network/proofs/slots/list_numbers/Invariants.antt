use Rattle.std.proofs.Common.{◌≡◌, ◌≤◌, ◌+◌, ◌++◌, length, map, drop, vec_capacity, vec_len}
use Rattle.network.specs.NumberedMessages.{still_there}
use Rattle.network.proofs.slots.list_numbers.Given as goal

abbrev pub invariant-loop-slot : goal.invariant-loop-slot
invariant-loop-slot l =
    (l.into.items ++ map (λ x. x.0) (still_there (drop l.slot-index l.slots)) ≡ map (λ x. x.0) (still_there l.slots))
    × (vec_len l.into + length (still_there (drop l.slot-index l.slots)) ≤ vec_capacity l.into)
    × (vec_capacity l.initial.into ≤ vec_capacity l.into)
