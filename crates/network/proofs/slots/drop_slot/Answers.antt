use Rattle.network.proofs.SlotChanges.{still_there-remove, IsRising-remove}
use Rattle.network.proofs.slots.drop_slot.Goals as goal

pub returns-clause-same : goal.returns-clause-same
returns-clause-same c =
    rw c.remove-slot.ensures.items (still_there-remove c.args.at c.remove-slot.result c.args.slots.now.items
    c.requires.inside (c.requires.none c.remove-slot.result))

pub returns-clause-rising : goal.returns-clause-rising
returns-clause-rising c = λ high rising.
    rw c.remove-slot.ensures.items (IsRising-remove 0 high c.args.at c.args.slots.now.items c.requires.inside rising)
