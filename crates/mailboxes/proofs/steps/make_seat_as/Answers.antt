use Rattle.std.proofs.Common.{arith}
use Rattle.mailboxes.proofs.steps.make_seat_as.Goals as goal

pub split_seat-requires : goal.split_seat-requires
split_seat-requires g c =
    let d = c.requires.table in
    let more = c.requires.more in
    let first = c.args.first.now in (
      d.0,
      omega arith,
      c.made_and_joined_seats_keep_the_rule.ensures.made c.args.table.now.key first.id first.me.0 g.C.StepChoice.set_up
          c.requires.choice more.0 more.1 more.2,
    )
