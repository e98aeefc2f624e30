use Rattle.std.proofs.Common.{◌∙◌, arith, refl}
use Rattle.network.specs.NumberedMessages.{still_there}
use Rattle.network.proofs.StoredChanges.{stored-same, stored-count}
use Rattle.network.proofs.StoredMessages.{messages-numbers}
use Rattle.network.proofs.linked.LinkedMessages.seek_nth.Goals as goal

pub invariant_of-self : goal.invariant_of-self
invariant_of-self c = rw c.drop_slot_gaps.ensures.capacity (stored-same _ _ _ _ _ c.self.inside.slots.items
    c.drop_slot_gaps.new.slots.items c.self.inside.arena c.self.invariant c.drop_slot_gaps.ensures.same
    (c.drop_slot_gaps.ensures.rising _ c.self.invariant.rising) (omega (arith, c.drop_slot_gaps.ensures.long)))

pub nth_message_number-requires : goal.nth_message_number-requires
nth_message_number-requires c = rw (c.deref.ensures.value, c.drop_slot_gaps.ensures.same) c.self.invariant.counted

pub returns-clause-number : goal.returns-clause-number
returns-clause-number c =
    let same = messages-numbers c.self.inside.arena.lists (still_there c.self.inside.slots.items)
    c.self.invariant.linked.placed in
    rw (← c.self.view_is, same, ← c.drop_slot_gaps.ensures.same, ← c.deref.ensures.value) c.nth_message_number.ensures

pub returns-clause-after : goal.returns-clause-after
returns-clause-after c =
    let long = c.drop_slot_gaps.ensures.long ∙ stored-count _ _ _ _ _ c.self.inside.slots.items c.self.inside.arena
    c.self.invariant in
    rw (← c.self.view_is, c.drop_slot_gaps.ensures.capacity) (rw (c.drop_slot_gaps.ensures.same, long) refl)
