use Rattle.std.proofs.Common.{◌≡◌, ℕ, ◌<◌, ◌≤◌, false, get_or, take, vec_capacity}
use Rattle.std.specs.Mem.Slots.{slots_filled, slots_items, slots_len}
use Rattle.std.specs.Mem.Slots.Ownership.{Filled}
use Rattle.closed_machine.proofs.slots.take_slot_messages.Given as goal

-- the slots so far are empty, and their contents are in the list
abbrev pub invariant-loop-i : goal.invariant-loop-i
invariant-loop-i l =
    Filled (slots_filled l.closed.slots) l.i (slots_len l.closed.slots)
    × ((k : ℕ) → k < l.i → get_or (slots_filled l.closed.slots) k false ≡ false)
    × (slots_items l.closed.slots ≡ slots_items l.initial.closed.slots)
    × (slots_len l.closed.slots ≡ slots_len l.initial.closed.slots)
    × (slots_len l.closed.slots ≤ vec_capacity l.slots)
    × (l.slots.items ≡ take l.i (slots_items l.initial.closed.slots))
