use Rattle.std.proofs.Common.{vec_capacity, ◌++◌, ◌∙◌, ap, sym, arith, is_some, length-append, ◌∷◌, [], Some, refl}
use Rattle.line_arena.specs.Arenas.{pushed}
use Rattle.network.specs.NumberedMessages.{still_there}
use Rattle.network.specs.Stored.{cell_messages}
use Rattle.network.proofs.LinkLaws.{has-link, link-low}
use Rattle.network.proofs.StoredChanges.{Sends, is-ok, stored-free, stored-sent}
use Rattle.network.proofs.linked.LinkedMessages.push.Goals.{After-push_reserved}
use Rattle.network.proofs.linked.LinkedMessages.push.Goals as goal

pub unwrap-requires : goal.unwrap-requires
unwrap-requires c =
    let here = rw (← c.self.view_is) at c.requires.endpoints in
    let link = has-link c.self.inside.cores c.self.inside.banks c.args.message here in
    ap is_some (c.link_of-link.ensures ∙ link.1)

pub push_back-pushed-requires : goal.push_back-pushed-requires
push_back-pushed-requires c =
    let low = link-low c.self.inside.cores c.self.inside.banks _ _ c.unwrap.result
    (sym c.link_of-link.ensures ∙ c.unwrap.ensures) in
    omega (arith, low, c.self.invariant.linked.many)

pub unwrap-cell-requires : goal.unwrap-cell-requires
unwrap-cell-requires c =
    let room = rw (← c.self.view_is) at c.requires.room in
    is-ok c.push_back-pushed.result (λ err. stored-free _ _ _ _ _ c.self.inside.slots.items c.self.inside.arena
    c.self.invariant room (c.push_back-pushed.ensures.full.0 err))

pub overflow_add-self-2 : goal.overflow_add-self-2
overflow_add-self-2 c = omega (arith, c.self.invariant.bounded, c.self.invariant.most_cells)

-- what is stored with the message
sent : (c : After-push_reserved) → Sends c.self.inside.cores c.self.inside.banks c.self.inside.next c.self.inside.count
    (vec_capacity c.self.inside.slots) c.args.message
    (c.self.inside.slots.items ++ (c.self.inside.next, Some c.cell.inside.0) ∷ [])
    (pushed c.unwrap.result (c.cell.inside.0, (c.self.inside.next, c.args.message)) c.self.inside.arena)
    (cell_messages c.self.inside.arena.lists (still_there c.self.inside.slots.items))
sent c =
    let here = rw (← c.self.view_is) at c.requires.endpoints in
    let room = rw (← c.self.view_is) at c.requires.room in
    let number = rw (← c.self.view_is) at c.requires.number in
    let fresh = rw c.unwrap-cell.ensures at c.push_back-pushed.ensures.fresh in
    stored-sent _ _ _ _ _ c.unwrap.result c.cell.inside.0 c.args.message c.self.inside.slots.items c.self.inside.arena
    c.self.invariant c.appended.ensures here number room (rw (← c.cell.view_is) at fresh)
    (sym c.link_of-link.ensures ∙ c.unwrap.ensures)

pub invariant_of-self : goal.invariant_of-self
invariant_of-self c =
    let after = rw c.unwrap-cell.ensures at c.push_back-pushed.ensures.after in
    rw (c.push_reserved.ensures.items, c.push_reserved.ensures.capacity, rw (← c.cell.view_is) at after)
    (sent (goal.at.invariant_of-self c).After-push_reserved).stored

pub returns-clause-after : goal.returns-clause-after
returns-clause-after c =
    let after = rw c.unwrap-cell.ensures at c.push_back-pushed.ensures.after in
    let new = sent (goal.at.returns-clause-after c).After-push_reserved in
    let long = length-append c.self.inside.slots.items ((c.self.inside.next, Some c.cell.inside.0) ∷ []) in
    rw (
      ← c.self.view_is,
      c.push_reserved.ensures.items,
      c.push_reserved.ensures.capacity,
      rw (← c.cell.view_is) at after,
    ) (rw (new.are, long) refl)

pub returns-clause-slot : goal.returns-clause-slot
returns-clause-slot c =
    rw (← c.self.view_is) (omega (arith, c.self.invariant.few, c.self.invariant.bounded, c.self.invariant.room))
