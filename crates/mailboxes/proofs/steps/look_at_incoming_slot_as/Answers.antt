use Rattle.std.proofs.Common.{arith, rules}
use Rattle.mailboxes.proofs.steps.look_at_incoming_slot_as.Goals as goal

pub load-requires : goal.load-requires
load-requires g c =
    let key = c.args.table.now.key in
    let seat = c.args.seat.now in (
      search rules,
      (let near = c.requires.slot.0 in let wide = c.requires.table.1 in omega arith),
      c.looks_keep_the_rule.ensures.incoming key c.args.table.now.table_id.slots seat.id c.args.slot seat.me
          g.C.StepChoice.set_up c.requires.table.2 c.requires.choice c.requires.slot.0 c.requires.slot.1
          c.requires.idle.0
          c.requires.idle.1,
    )
