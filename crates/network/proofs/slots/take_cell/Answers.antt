use Rattle.std.proofs.Common.{sym}
use Rattle.network.specs.NumberedMessages.{still_there}
use Rattle.network.proofs.SlotChanges.{without_number-none}
use Rattle.network.proofs.slots.take_cell.Goals as goal

pub returns-in_err-at-clause-after : goal.returns-in_err-at-clause-after
returns-in_err-at-clause-after c = sym (without_number-none c.args.number (still_there c.args.slots.now.items)
    (rw (← c.deref.ensures.value) c.in_err-at.ensures.absent))
