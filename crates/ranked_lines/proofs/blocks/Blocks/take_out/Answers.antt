use Rattle.std.proofs.Common.{arith, refl, sym, ◌∙◌}
use Rattle.ranked_lines.proofs.RisingEdits.{rises-take_out}
use Rattle.ranked_lines.proofs.BlockedLists.{take-none}
use Rattle.ranked_lines.proofs.blocks.Blocks.take_out.Goals as goal

pub returns-then-at-len : goal.returns-then-at-len
returns-then-at-len c = rw (← c.self.view_is) record {
  numbers = take-none c.args.number c.self.inside.blocks.items
      (let le = c.if-at-len.true in let at = rw c.deref.ensures.value at c.block_at-at.ensures.count in
      omega (arith, le, at));
  room = refl;
}

pub invariant_of-self : goal.invariant_of-self
invariant_of-self c = (
  rw (sym (c.join_short_neighbours.ensures.same ∙ c.take_number_from_block.ensures.taken)) at (rises-take_out
      c.args.number _ c.self.invariant.0),
  c.join_short_neighbours.ensures.filled c.take_number_from_block.ensures.filled,
  c.join_short_neighbours.ensures.dense (c.take_number_from_block.ensures.dense c.self.invariant.2),
)
