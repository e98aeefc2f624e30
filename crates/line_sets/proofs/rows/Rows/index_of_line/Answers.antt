use Rattle.std.proofs.Common.{arith}
use Rattle.line_sets.proofs.RowFinds.{all-seen, place-in, row-read}
use Rattle.line_sets.proofs.rows.Rows.index_of_line.Goals as goal

pub index_of_line-requires-clause-cells : goal.index_of_line-requires-clause-cells
index_of_line-requires-clause-cells g c =
    rw (row-read c.self.view_is c.requires.in_table c.index.ensures) (all-seen c.args.arena.now.lists c.args.set
    c.looked_up.ensures c.lists-lists.ensures.once
    (c.requires.fits c.args.set (omega (arith, c.requires.in_table, c.requires.many))))

pub returns : goal.returns
returns g c =
    place-in c.args.arena.now.lists c.args.set c.args.line c.looked_up.ensures c.lists-lists.ensures.once
    (c.requires.fits c.args.set (omega (arith, c.requires.in_table, c.requires.many))) c.index_of_line.result
    (rw (row-read c.self.view_is c.requires.in_table c.index.ensures) at c.index_of_line.ensures)
