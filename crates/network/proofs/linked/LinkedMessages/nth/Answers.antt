use Rattle.network.specs.NumberedMessages.{still_there}
use Rattle.network.proofs.StoredMessages.{messages-numbers}
use Rattle.network.proofs.linked.LinkedMessages.nth.Goals as goal

pub returns : goal.returns
returns c =
    let same = messages-numbers c.self.inside.arena.lists (still_there c.self.inside.slots.items)
    c.self.invariant.linked.placed in
    rw (← c.self.view_is, same, ← c.deref.ensures.value) c.nth_message_number.ensures
