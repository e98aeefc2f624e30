use Rattle.mailboxes.proofs.steps.receive_from_slot_as.Goals as goal

pub give_slot_back-requires-clause-rule : goal.give_slot_back-requires-clause-rule
give_slot_back-requires-clause-rule g c =
    c.puts_and_takes_keep_the_rule.ensures.take c.args.table.now.key c.args.table.now.table_id.slots c.args.seat.now.id
    c.args.seat.now.me c.args.slot c.args.message g.C.StepChoice.set_up g.C.StepChoice.to c.requires.table.2
    c.requires.slot.3
    c.requires.choice.0 c.requires.choice.1 c.requires.slot.1 c.requires.reading c.requires.slot.2
