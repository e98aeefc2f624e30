use Rattle.std.proofs.Common.{◌≡◌, map, drop}
use Rattle.std.specs.List.{slice_get}
use Rattle.network.specs.NumberedMessages.{still_there}
use Rattle.network.proofs.slots.nth_message_number.Given as goal

abbrev pub invariant-loop-slot : goal.invariant-loop-slot
invariant-loop-slot l = slice_get (map (λ x. x.0) (still_there (drop l.slot-index l.slots))) l.left ≡ slice_get
    (map (λ x. x.0) (still_there l.slots)) l.at
