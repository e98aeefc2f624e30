use Rattle.std.proofs.Common.{arith}
use Rattle.drawn_numbers.proofs.Draws.{joining}
use Rattle.drawn_numbers.proofs.steps.join_view.Goals as goal

pub join_seat-requires : goal.join_seat-requires
join_seat-requires c =
    let d = c.requires.table in
    let wide = d.0.1 in
    let live = c.requires.live in
    let seat = c.args.seat.now in
    let other = c.args.other in (
      d.0.0,
      d.1,
      live.2,
      omega arith,
      joining c.args.table.now.key seat.id seat.me.0 other.id other.me.0 live.0 live.1,
    )
