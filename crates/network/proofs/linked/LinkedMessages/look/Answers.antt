use Rattle.std.proofs.Common.{◌≡◌, ◌^◌, ◌∙◌, sym, ap, arith, is_some, Some, None}
use Rattle.network.specs.NumberedMessages.{at_number, still_there}
use Rattle.network.specs.Stored.{at_cell, cell_messages}
use Rattle.network.proofs.SlotChanges.{IsRising-higher, AllHaveEndpoints-at_number}
use Rattle.network.proofs.StoredMessages.{messages-at_number, placed-at, second-of}
use Rattle.network.proofs.linked.LinkedMessages.look.Goals as goal

pub cell_of_message-requires : goal.cell_of_message-requires
cell_of_message-requires c = rw c.deref.ensures.value (IsRising-higher 0 c.self.inside.next (2 ^ 64)
    c.self.inside.slots.items c.self.invariant.rising (omega arith))

pub returns-in_err-cell-clause-value : goal.returns-in_err-cell-clause-value
returns-in_err-cell-clause-value c =
    let ls = c.self.inside.arena.lists in let xs = still_there c.self.inside.slots.items in
    let none : at_number c.args.number xs ≡ None =
    rw (← c.deref.ensures.value) (sym c.cell_of_message.ensures ∙ c.in_err-cell.was) in
    rw (← c.self.view_is, c.from_residual.ensures) (sym (messages-at_number c.args.number ls xs
    c.self.invariant.linked.placed ∙ ap (at_cell ls) none))

pub get-requires : goal.get-requires
get-requires c =
    let ls = c.self.inside.arena.lists in let xs = still_there c.self.inside.slots.items in
    let some : at_number c.args.number xs ≡ Some c.in_ok-cell.cell =
    rw (← c.deref.ensures.value) (sym c.cell_of_message.ensures ∙ c.in_ok-cell.was) in
    ap is_some (placed-at c.args.number c.in_ok-cell.cell ls xs c.self.invariant.linked.placed some).1

pub returns-clause-value : goal.returns-clause-value
returns-clause-value c =
    let ls = c.self.inside.arena.lists in let xs = still_there c.self.inside.slots.items in
    let some : at_number c.args.number xs ≡ Some c.in_ok-cell.cell =
    rw (← c.deref.ensures.value) (sym c.cell_of_message.ensures ∙ c.in_ok-cell.was) in
    rw (← c.self.view_is) (sym (messages-at_number c.args.number ls xs c.self.invariant.linked.placed
    ∙ ap (at_cell ls) some ∙ second-of _ _ c.get.ensures))

pub returns-clause-endpoints : goal.returns-clause-endpoints
returns-clause-endpoints c =
    let ls = c.self.inside.arena.lists in let xs = still_there c.self.inside.slots.items in
    let some : at_number c.args.number xs ≡ Some c.in_ok-cell.cell =
    rw (← c.deref.ensures.value) (sym c.cell_of_message.ensures ∙ c.in_ok-cell.was) in
    rw (← c.self.view_is) (AllHaveEndpoints-at_number _ _ c.args.number c.get.result.now.1 (cell_messages ls xs)
    c.self.invariant.linked.endpoints (messages-at_number c.args.number ls xs c.self.invariant.linked.placed
    ∙ ap (at_cell ls) some ∙ second-of _ _ c.get.ensures))
