use Rattle.std.proofs.Common.{◌+◌, ◌*◌, ◌∙◌}
use Rattle.mailboxes.proofs.EmptySlots.{link_slots}
use Rattle.mailboxes.proofs.taking.first_slot_of_link.Goals as goal

pub returns-clause-slot : goal.returns-clause-slot
returns-clause-slot c =
    let z = c.args.machine.now.set_up in
    let slots = c.requires.slots in
    (λ j. slots.first j + c.args.from * slots.stride j)
    ∙ link_slots z.config.cores z.config.banks c.args.number c.args.from
