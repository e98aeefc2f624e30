use Rattle.std.proofs.Common.{◌^◌}
use Rattle.network.proofs.SlotChanges.{still_there-set, IsRising-set}
use Rattle.network.proofs.slots.take_cell_out_of_slot.Goals as goal

pub returns-clause-after : goal.returns-clause-after
returns-clause-after c =
    still_there-set c.args.number 0 (2 ^ 64) c.args.at _ c.args.slots.now.items c.requires.here c.requires.rising

pub returns-clause-rising : goal.returns-clause-rising
returns-clause-rising c = λ high rising. IsRising-set 0 high c.args.at c.args.number _ _ c.args.slots.now.items
    c.requires.here rising
