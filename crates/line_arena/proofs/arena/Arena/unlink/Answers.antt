use Rattle.std.proofs.Common.{sym, ap, ◌∙◌, is_some}
use Rattle.line_arena.specs.Arenas.{lists_of, shown}
use Rattle.line_arena.specs.Rings.{or_blank}
use Rattle.line_arena.proofs.Places.{held}
use Rattle.line_arena.proofs.Seen.{same_some}
use Rattle.line_arena.proofs.arena.Arena.unlink.Goals as goal

pub detach-requires-clause-cell : goal.detach-requires-clause-cell
detach-requires-clause-cell g c =
    let h = held c.self.invariant c.self.view_is c.cell.view_is c.requires in (h.inside, h.is)

pub unwrap-requires : goal.unwrap-requires
unwrap-requires g c =
    let h = held c.self.invariant c.self.view_is c.cell.view_is c.requires in
    ap is_some (c.release.ensures.value ∙ same_some _ _ (sym c.detach.ensures.value ∙ h.held_as))

pub returns-clause-value : goal.returns-clause-value
returns-clause-value g c =
    let h = held c.self.invariant c.self.view_is c.cell.view_is c.requires in
    h.found ∙ same_some _ _ (sym h.held_as ∙ c.detach.ensures.value) ∙ sym c.release.ensures.value ∙ c.unwrap.ensures

pub returns-clause-after : goal.returns-clause-after
returns-clause-after g c =
    let h = held c.self.invariant c.self.view_is c.cell.view_is c.requires in
    let lists = ap shown (c.release.ensures.lists ∙ c.detach.ensures.lists) ∙ h.kept in
    let cells = c.release.ensures.sizes ∙ c.detach.ensures.sizes.capacity ∙ ap (λ a. a.cells) c.self.view_is in
    λ i. lists_of (lists i) (cells i)

pub detach-requires-clause-on : goal.detach-requires-clause-on
detach-requires-clause-on g c =
    let h = held c.self.invariant c.self.view_is c.cell.view_is c.requires in
    rw (ap (λ o. (or_blank o).list) h.is) h.on
