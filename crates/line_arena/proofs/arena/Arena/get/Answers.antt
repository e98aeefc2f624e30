use Rattle.std.proofs.Common.{sym, ◌∙◌}
use Rattle.line_arena.proofs.Places.{held}
use Rattle.line_arena.proofs.arena.Arena.get.Goals as goal

pub value-requires : goal.value-requires
value-requires g c =
    let h = held c.self.invariant c.self.view_is c.cell.view_is c.requires in (h.inside, h.value, h.is, h.item)

pub returns : goal.returns
returns g c =
    let h = held c.self.invariant c.self.view_is c.cell.view_is c.requires in
    h.found ∙ sym h.item ∙ c.value.ensures h.inside h.is
