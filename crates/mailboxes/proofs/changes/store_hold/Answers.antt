use Rattle.std.proofs.Common.{arith}
use Rattle.mailboxes.proofs.changes.store_hold.Goals as goal

pub fetch_add-requires : goal.fetch_add-requires
fetch_add-requires g c =
    let d = c.requires.table in
    let change = c.requires.change in (
      d.0,
      omega (arith, d.1, c.requires.word),
      c.changes_keep_the_rule.ensures c.args.table.now.key c.args.table.now.table_id.slots c.args.word
          c.args.seat.now.id c.args.seat.now.me g.C.StepChoice.set_up g.C.StepChoice.to change.0 d.2 c.requires.word
          c.requires.choice
          c.requires.live change.1 change.2 change.3,
    )
