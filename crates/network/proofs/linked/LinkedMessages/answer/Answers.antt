use Rattle.std.proofs.Common.{vec_capacity, ◌^◌, ◌∙◌, sym, ap, arith, is_some, refl}
use Rattle.line_arena.specs.Arenas.{pushed, unlinked}
use Rattle.network.specs.NumberedMessages.{still_there}
use Rattle.network.specs.Stored.{cell_messages}
use Rattle.network.proofs.LinkLaws.{link-low}
use Rattle.network.proofs.SlotChanges.{IsRising-append, IsRising-higher, length-answered}
use Rattle.network.proofs.StoredChanges.{Answers, stored-answered}
use Rattle.network.proofs.StoredMessages.{placed-at, placed-some}
use Rattle.network.proofs.linked.LinkedMessages.answer.Goals.{After-drop_surplus_empty_slots}
use Rattle.network.proofs.linked.LinkedMessages.answer.Goals as goal

pub take_cell-taken-requires : goal.take_cell-taken-requires
take_cell-taken-requires c =
    IsRising-higher 0 c.self.inside.next (2 ^ 64) c.self.inside.slots.items c.self.invariant.rising (omega arith)

pub unwrap-cell-requires : goal.unwrap-cell-requires
unwrap-cell-requires c =
    let there = rw (← c.self.view_is) at c.requires.there in
    ap is_some c.take_cell-taken.ensures.value ∙ placed-some c.args.number c.self.inside.arena.lists
    (still_there c.self.inside.slots.items) c.self.invariant.linked.placed there

pub refill-before-requires-clause-list : goal.refill-before-requires-clause-list
refill-before-requires-clause-list c =
    let low = link-low c.self.inside.cores c.self.inside.banks _ _ c.unwrap.result
    (sym c.link_of-link.ensures ∙ c.unwrap.ensures) in
    omega (arith, low, c.self.invariant.linked.many)

pub refill-before-requires-clause-cell : goal.refill-before-requires-clause-cell
refill-before-requires-clause-cell c =
    ap is_some (placed-at c.args.number c.unwrap-cell.result c.self.inside.arena.lists
    (still_there c.self.inside.slots.items) c.self.invariant.linked.placed
    (sym c.take_cell-taken.ensures.value ∙ c.unwrap-cell.ensures)).1

pub drop_surplus_empty_slots-requires : goal.drop_surplus_empty_slots-requires
drop_surplus_empty_slots-requires c =
    rw c.push_reserved.ensures.items (c.self.invariant.counted ∙ sym (length-answered c.args.number c.self.inside.next
    c.unwrap-cell.result c.self.inside.slots.items c.take_cell-taken.new.slots.items
    (sym c.take_cell-taken.ensures.value ∙ c.unwrap-cell.ensures) c.take_cell-taken.ensures.after))

-- what is stored when the empty slots are dropped
answered : (c : After-drop_surplus_empty_slots) → Answers c.self.inside.cores c.self.inside.banks c.self.inside.next
    c.self.inside.count (vec_capacity c.self.inside.slots) c.args.number c.args.reply
    c.drop_surplus_empty_slots.new.slots.items
    (pushed c.unwrap.result (c.unwrap-cell.result, (c.self.inside.next, c.args.reply))
    (unlinked c.unwrap-cell.result c.self.inside.arena))
    (cell_messages c.self.inside.arena.lists (still_there c.self.inside.slots.items))
answered c =
    let here = rw (← c.self.view_is) at c.requires.endpoints in
    let number = rw (← c.self.view_is) at c.requires.number in
    stored-answered _ _ _ _ _ c.args.number c.unwrap.result c.unwrap-cell.result c.args.reply c.self.inside.slots.items
    c.take_cell-taken.new.slots.items c.drop_surplus_empty_slots.new.slots.items c.self.inside.arena c.self.invariant
    c.looked_up.ensures c.taken_off.ensures c.appended.ensures c.lists-lists.ensures.once here number
    (sym c.take_cell-taken.ensures.value ∙ c.unwrap-cell.ensures) (sym c.link_of-link.ensures ∙ c.unwrap.ensures)
    c.take_cell-taken.ensures.after (rw (← c.push_reserved.ensures.items) c.drop_surplus_empty_slots.ensures.same)
    (c.drop_surplus_empty_slots.ensures.rising _ (rw c.push_reserved.ensures.items (IsRising-append 0 _ _ _
    (c.take_cell-taken.ensures.rising _ c.self.invariant.rising)))) c.drop_surplus_empty_slots.ensures.few

pub invariant_of-self : goal.invariant_of-self
invariant_of-self c = rw (
  c.drop_surplus_empty_slots.ensures.capacity,
  c.push_reserved.ensures.capacity,
  c.take_cell-taken.ensures.capacity,
  c.refill-before.ensures.after,
) (answered (goal.at.invariant_of-self c).After-drop_surplus_empty_slots).stored

pub returns-clause-after : goal.returns-clause-after
returns-clause-after c =
    let new = answered (goal.at.returns-clause-after c).After-drop_surplus_empty_slots in
    rw (
      ← c.self.view_is,
      c.drop_surplus_empty_slots.ensures.capacity,
      c.push_reserved.ensures.capacity,
      c.take_cell-taken.ensures.capacity,
      c.refill-before.ensures.after,
    ) (rw new.are refl)
