use Rattle.mailboxes.proofs.steps.send_into_slot_as.Goals as goal

pub give_slot_back-requires-clause-rule : goal.give_slot_back-requires-clause-rule
give_slot_back-requires-clause-rule g c =
    let writing = c.requires.writing in
    c.puts_and_takes_keep_the_rule.ensures.put c.args.table.now.key c.args.table.now.table_id.slots
    c.exchange.new.seat.id c.args.seat.now.me c.exchange.new.seat.me c.args.slot c.args.message c.args.index
    g.C.StepChoice.set_up g.C.StepChoice.to c.requires.table.2 c.exchange.ensures.3 c.requires.choice.0
    c.requires.choice.1 writing.0
    writing.1 writing.2 writing.3
