use Rattle.std.proofs.Common.{map, sym, ap, ◌∙◌, arith}
use Rattle.std.proofs.lemmas.List.{length-map}
use Rattle.line_arena.specs.CellLists.{without, append_to}
use Rattle.line_arena.specs.Chains.{rings_of}
use Rattle.line_arena.specs.Rings.{or_blank}
use Rattle.line_arena.proofs.Places.{held}
use Rattle.line_arena.proofs.Seen.{same_some}
use Rattle.line_arena.proofs.Shows.{pushed_to}
use Rattle.line_arena.proofs.arena.Arena.move_to_back.Goals as goal

pub detach-requires-clause-cell : goal.detach-requires-clause-cell
detach-requires-clause-cell g c =
    let h = held c.self.invariant c.self.view_is c.cell.view_is c.requires.cell in (h.inside, h.is)

pub attach-requires-clause-value : goal.attach-requires-clause-value
attach-requires-clause-value g c =
    let h = held c.self.invariant c.self.view_is c.cell.view_is c.requires.cell in
    (h.value, same_some _ _ (sym c.detach.ensures.value ∙ h.held_as))

pub returns : goal.returns
returns g c =
    let h = held c.self.invariant c.self.view_is c.cell.view_is c.requires.cell in
    let s = c.self.inside.chains in let x = c.cell.inside.0 in let new = c.attach.new.self in let l = c.args.list in
    let low = c.requires.list in let same = length-map c.args.self.now.lists (without c.args.cell) in
    let item = same_some _ _ (sym c.detach.ensures.value ∙ h.held_as) in
    let moved = c.attach.ensures.lists ∙ (λ k. append_to l (x, item k) (c.detach.ensures.lists k)) in
    rw h.found (pushed_to (map (without x) (rings_of s)) new h.value h.kept (omega arith) c.cell.view_is
    moved (c.attach.ensures.sizes.0 ∙ c.detach.ensures.sizes.capacity ∙ ap (λ a. a.cells) c.self.view_is))

pub detach-requires-clause-on : goal.detach-requires-clause-on
detach-requires-clause-on g c =
    let h = held c.self.invariant c.self.view_is c.cell.view_is c.requires.cell in
    rw (ap (λ o. (or_blank o).list) h.is) h.on
