use Rattle.std.proofs.Common.{arith}
use Rattle.drawn_numbers.proofs.Draws.{splitting}
use Rattle.drawn_numbers.proofs.steps.make_seat.Goals as goal

pub split_seat-requires : goal.split_seat-requires
split_seat-requires c =
    let d = c.requires.table in
    let wide = d.1 in
    let more = c.requires.more in
    let first = c.args.first.now in
    (d.0, omega arith, splitting c.args.table.now.key first.id first.me.0 more.0 more.1 more.2)
