use Rattle.std.proofs.Common.{arith}
use Rattle.network.specs.NumberedMessages.{still_there}
use Rattle.network.proofs.StoredMessages.{messages-length}
use Rattle.network.proofs.linked.LinkedMessages.count.Goals as goal

pub returns-clause-value : goal.returns-clause-value
returns-clause-value c =
    let long = messages-length c.self.inside.arena.lists (still_there c.self.inside.slots.items)
    c.self.invariant.linked.placed in
    rw (← c.self.view_is) (omega (arith, long, c.self.invariant.counted))
