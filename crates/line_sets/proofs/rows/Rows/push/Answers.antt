use Rattle.std.proofs.Common.{Some, length, ap, arith, set, length-set}
use Rattle.line_sets.proofs.RowLaws.{unplaced, spread-more, room-same}
use Rattle.line_sets.proofs.rows.Rows.push.Goals as goal

pub push_reserved-requires : goal.push_reserved-requires
push_reserved-requires c =
    let new = unplaced c.self.invariant.0 (omega (arith, c.requires.in_table, ap length c.self.view_is))
    c.index.ensures c.in_default.not-Some in
    omega (arith, new.room, c.self.invariant.1.for_sets)

pub invariant_of-self : goal.invariant_of-self
invariant_of-self c =
    let ps = c.self.inside.places.items in
    let new = unplaced c.self.invariant.0 (omega (arith, c.requires.in_table, ap length c.self.view_is))
    c.index.ensures c.in_default.not-Some in (
      rw c.push_reserved.ensures.items (spread-more ps _ c.self.inside.rows.items c.args.set c.len.result
          c.push.new.self c.self.invariant.0 new.low new.none (omega (arith, c.len.ensures))),
      rw c.push_reserved.ensures.capacity (room-same ps (set ps c.args.set (Some c.len.result)) _
          (length-set ps c.args.set _) c.self.invariant.1),
    )
