use Rattle.network.specs.NumberedMessages.{still_there}
use Rattle.network.proofs.SlotChanges.{IsRising-still_there}
use Rattle.network.proofs.StoredMessages.{messages-length, messages-numbers, messages-rising}
use Rattle.network.proofs.linked.LinkedMessages.list_numbers.Goals as goal

pub returns-clause-numbers : goal.returns-clause-numbers
returns-clause-numbers c =
    let same = messages-numbers c.self.inside.arena.lists (still_there c.self.inside.slots.items)
    c.self.invariant.linked.placed in
    rw (← c.self.view_is, same, ← c.deref.ensures.value) c.list_numbers.ensures.listed

pub returns-clause-rising : goal.returns-clause-rising
returns-clause-rising c = rw (← c.self.view_is) (messages-rising 0 c.self.inside.next c.self.inside.arena.lists
    (still_there c.self.inside.slots.items) c.self.invariant.linked.placed
    (IsRising-still_there 0 c.self.inside.next c.self.inside.slots.items c.self.invariant.rising))

pub returns-clause-wanted : goal.returns-clause-wanted
returns-clause-wanted c =
    let long = messages-length c.self.inside.arena.lists (still_there c.self.inside.slots.items)
    c.self.invariant.linked.placed in
    rw (← c.self.view_is, long, ← c.self.invariant.counted) c.list_numbers.ensures.wanted
