use Rattle.std.proofs.Common.{arith}
use Rattle.drawn_numbers.proofs.Draws.{draws}
use Rattle.drawn_numbers.proofs.steps.draw_next.Goals as goal

pub fetch_add-requires : goal.fetch_add-requires
fetch_add-requires c =
    let d = c.requires.table in
    let wide = d.1 in
    let seat = c.args.seat.now in
    let table = c.args.table.now in
    (d.0, omega arith, draws table.key table.table_id.slots seat.id seat.me c.requires.live c.requires.few)
