use Rattle.std.proofs.Common.{arith}
use Rattle.mailboxes.proofs.steps.join_view.Goals as goal

pub join_seat-requires : goal.join_seat-requires
join_seat-requires c =
    let d = c.requires.table in
    let wide = d.0.1 in
    let live = c.requires.live in
    let seat = c.args.seat.now in (
      d.0.0,
      d.1,
      live.2,
      omega arith,
      c.made_and_joined_seats_keep_the_rule.ensures.joined c.args.table.now.key seat.id seat.me.0 c.args.other.id
          c.args.other.me.0 live.0 live.1,
    )
