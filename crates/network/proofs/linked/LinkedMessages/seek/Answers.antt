use Rattle.std.proofs.Common.{◌^◌, arith}
use Rattle.network.proofs.SlotChanges.{IsRising-higher}
use Rattle.network.proofs.linked.LinkedMessages.seek.Goals as goal

pub index_behind_slot-self-inside-requires : goal.index_behind_slot-self-inside-requires
index_behind_slot-self-inside-requires c = rw c.deref.ensures.value (IsRising-higher 0 c.self.inside.next (2 ^ 64)
    c.self.inside.slots.items c.self.invariant.rising (omega arith))
