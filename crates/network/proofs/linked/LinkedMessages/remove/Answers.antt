use Rattle.std.proofs.Common.{vec_capacity, ◌≡◌, ◌^◌, ◌∙◌, sym, ap, arith, is_some, refl, None}
use Rattle.line_arena.specs.Arenas.{unlinked}
use Rattle.network.specs.NumberedMessages.{at_number, still_there}
use Rattle.network.specs.Stored.{IsStored, at_cell, cell_messages}
use Rattle.network.proofs.SlotChanges.{IsRising-higher, length-without_number}
use Rattle.network.proofs.SlotChanges.{without_number-none}
use Rattle.network.proofs.StoredChanges.{Takes, stored-none, stored-taken}
use Rattle.network.proofs.StoredMessages.{messages-at_number, placed-at, second-of}
use Rattle.network.proofs.linked.LinkedMessages.remove.Goals.{After-drop_surplus_empty_slots, In_default}
use Rattle.network.proofs.linked.LinkedMessages.remove.Goals as goal

pub take_cell-requires : goal.take_cell-requires
take_cell-requires c =
    IsRising-higher 0 c.self.inside.next (2 ^ 64) c.self.inside.slots.items c.self.invariant.rising (omega arith)

-- what is stored where nothing has the number
kept : (c : In_default) → (still_there c.take_cell.new.slots.items ≡ still_there c.self.inside.slots.items)
    × IsStored c.self.inside.cores c.self.inside.banks c.self.inside.next c.self.inside.count
    (vec_capacity c.self.inside.slots) c.take_cell.new.slots.items c.self.inside.arena
kept c = stored-none _ _ _ _ _ c.args.number c.self.inside.slots.items c.take_cell.new.slots.items c.self.inside.arena
    c.self.invariant (sym c.take_cell.ensures.value ∙ c.in_default.is) c.take_cell.ensures.after
    (c.take_cell.ensures.rising _ c.self.invariant.rising) c.take_cell.ensures.long

pub invariant_of-self : goal.invariant_of-self
invariant_of-self c = rw c.take_cell.ensures.capacity (kept (goal.at.invariant_of-self c).In_default).1

pub returns-in_default-clause-value : goal.returns-in_default-clause-value
returns-in_default-clause-value c =
    let ls = c.self.inside.arena.lists in let xs = still_there c.self.inside.slots.items in
    let none : at_number c.args.number xs ≡ None = sym c.take_cell.ensures.value ∙ c.in_default.is in
    rw (← c.self.view_is) (sym (ap is_some (messages-at_number c.args.number ls xs c.self.invariant.linked.placed
    ∙ ap (at_cell ls) none)))

pub returns-in_default-clause-after : goal.returns-in_default-clause-after
returns-in_default-clause-after c =
    let ls = c.self.inside.arena.lists in let xs = still_there c.self.inside.slots.items in
    let none : at_number c.args.number xs ≡ None = sym c.take_cell.ensures.value ∙ c.in_default.is in
    let stored = kept (goal.at.returns-in_default-clause-after c).In_default in
    let same = without_number-none c.args.number (cell_messages ls xs)
    (messages-at_number c.args.number ls xs c.self.invariant.linked.placed ∙ ap (at_cell ls) none) in
    rw (← c.self.view_is, c.take_cell.ensures.capacity) (rw (stored.0, same) refl)

pub returns-in_default-clause-absent : goal.returns-in_default-clause-absent
returns-in_default-clause-absent c = λ none.
    let stored = kept (goal.at.returns-in_default-clause-absent c).In_default in
    rw (← c.self.view_is, c.take_cell.ensures.capacity) (rw (stored.0, c.take_cell.ensures.long) refl)

pub unlink-message-requires : goal.unlink-message-requires
unlink-message-requires c =
    let ls = c.self.inside.arena.lists in let xs = still_there c.self.inside.slots.items in
    ap is_some (placed-at c.args.number c.in-Some.cell ls xs c.self.invariant.linked.placed
    (sym c.take_cell.ensures.value ∙ c.in-Some.is)).1

pub drop_surplus_empty_slots-requires : goal.drop_surplus_empty_slots-requires
drop_surplus_empty_slots-requires c =
    let xs = still_there c.self.inside.slots.items in
    let less = length-without_number c.args.number c.in-Some.cell xs (sym c.take_cell.ensures.value ∙ c.in-Some.is) in
    rw c.take_cell.ensures.after (omega (arith, less, c.self.invariant.counted))

-- what is stored when the empty slots are dropped
taken : (c : After-drop_surplus_empty_slots) → Takes c.self.inside.cores c.self.inside.banks c.self.inside.next
    c.self.inside.count
    (vec_capacity c.self.inside.slots) c.args.number c.drop_surplus_empty_slots.new.slots.items
    (unlinked c.in-Some.cell c.self.inside.arena)
    (cell_messages c.self.inside.arena.lists (still_there c.self.inside.slots.items))
taken c =
    stored-taken _ _ _ _ _ c.args.number c.in-Some.cell c.self.inside.slots.items
    c.drop_surplus_empty_slots.new.slots.items
    c.self.inside.arena c.self.invariant c.looked_up.ensures c.taken_off.ensures c.lists-lists.ensures.once
    (sym c.take_cell.ensures.value ∙ c.in-Some.is) (c.drop_surplus_empty_slots.ensures.same ∙ c.take_cell.ensures.after)
    (c.drop_surplus_empty_slots.ensures.rising _ (c.take_cell.ensures.rising _ c.self.invariant.rising))
    (omega (arith, c.drop_surplus_empty_slots.ensures.few))

pub invariant_of-self-2 : goal.invariant_of-self-2
invariant_of-self-2 c = rw (
  c.drop_surplus_empty_slots.ensures.capacity,
  c.take_cell.ensures.capacity,
  c.unlink-message.ensures.after,
)
    (taken (goal.at.invariant_of-self-2 c).After-drop_surplus_empty_slots).stored

pub returns-clause-value : goal.returns-clause-value
returns-clause-value c =
    let ls = c.self.inside.arena.lists in let xs = still_there c.self.inside.slots.items in
    rw (← c.self.view_is) (sym (ap is_some (messages-at_number c.args.number ls xs c.self.invariant.linked.placed
    ∙ ap (at_cell ls) (sym c.take_cell.ensures.value ∙ c.in-Some.is)
    ∙ second-of _ _ c.unlink-message.ensures.value)))

pub returns-clause-after : goal.returns-clause-after
returns-clause-after c =
    let new = taken (goal.at.returns-clause-after c).After-drop_surplus_empty_slots in
    rw (
      ← c.self.view_is,
      c.drop_surplus_empty_slots.ensures.capacity,
      c.take_cell.ensures.capacity,
      c.unlink-message.ensures.after,
    ) (rw new.are refl)
