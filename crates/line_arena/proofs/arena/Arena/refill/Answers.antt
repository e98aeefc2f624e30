use Rattle.std.proofs.Common.{map, Some, sym, ap, ◌∙◌, arith, is_some}
use Rattle.std.proofs.lemmas.List.{length-map}
use Rattle.line_arena.specs.CellLists.{without, append_to}
use Rattle.line_arena.specs.Chains.{rings_of}
use Rattle.line_arena.specs.Rings.{or_blank}
use Rattle.line_arena.proofs.Places.{held}
use Rattle.line_arena.proofs.Shows.{pushed_to}
use Rattle.line_arena.proofs.Seen.{same_some}
use Rattle.line_arena.proofs.arena.Arena.refill.Goals as goal

pub detach-requires-clause-cell : goal.detach-requires-clause-cell
detach-requires-clause-cell g c =
    let h = held c.self.invariant c.self.view_is c.cell.view_is c.requires.cell in (h.inside, h.is)

pub unwrap-requires : goal.unwrap-requires
unwrap-requires g c =
    let h = held c.self.invariant c.self.view_is c.cell.view_is c.requires.cell in
    ap is_some (c.fill.ensures.value ∙ same_some _ _ (sym c.detach.ensures.value ∙ h.held_as))

pub returns-clause-value : goal.returns-clause-value
returns-clause-value g c =
    let h = held c.self.invariant c.self.view_is c.cell.view_is c.requires.cell in
    h.found ∙ same_some _ _ (sym h.held_as ∙ c.detach.ensures.value) ∙ sym c.fill.ensures.value ∙ c.unwrap.ensures

pub returns-clause-after : goal.returns-clause-after
returns-clause-after g c =
    let h = held c.self.invariant c.self.view_is c.cell.view_is c.requires.cell in let low = c.requires.list in
    let same = length-map c.args.self.now.lists (without c.args.cell) in
    pushed_to (map (without c.cell.inside.0) (rings_of c.self.inside.chains)) c.fill.new.self c.args.item
    h.kept (omega arith) c.cell.view_is
    (c.fill.ensures.lists ∙ ap (append_to c.args.list (c.cell.inside.0, Some c.args.item)) c.detach.ensures.lists)
    (c.fill.ensures.sizes.0 ∙ c.detach.ensures.sizes.capacity ∙ ap (λ a. a.cells) c.self.view_is)

pub detach-requires-clause-on : goal.detach-requires-clause-on
detach-requires-clause-on g c =
    let h = held c.self.invariant c.self.view_is c.cell.view_is c.requires.cell in
    rw (ap (λ o. (or_blank o).list) h.is) h.on
