use Rattle.std.proofs.Common.{arith}
use Rattle.network.specs.NumberedMessages.{still_there}
use Rattle.network.proofs.StoredMessages.{messages-length}
use Rattle.network.proofs.linked.LinkedMessages.slots.Goals as goal

pub returns-clause-bound : goal.returns-clause-bound
returns-clause-bound c =
    let long = messages-length c.self.inside.arena.lists (still_there c.self.inside.slots.items)
    c.self.invariant.linked.placed in
    rw (← c.self.view_is) (omega (arith, long, c.self.invariant.counted, c.self.invariant.few))
