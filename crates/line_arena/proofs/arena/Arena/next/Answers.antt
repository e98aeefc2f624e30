use Rattle.std.proofs.Common.{Some, sym, ap, ◌∙◌}
use Rattle.line_arena.proofs.Places.{held}
use Rattle.line_arena.proofs.arena.Arena.next.Goals as goal

pub next-next-requires : goal.next-next-requires
next-next-requires g c =
    let h = held c.self.invariant c.self.view_is c.cell.view_is c.requires in (h.inside, h.is)

pub returns-then-next-self : goal.returns-then-next-self
returns-then-next-self g c =
    let h = held c.self.invariant c.self.view_is c.cell.view_is c.requires in
    sym (h.ends (rw (c.next-next.ensures h.inside h.is) at c.if-next-self.true))

pub returns : goal.returns
returns g c =
    let h = held c.self.invariant c.self.view_is c.cell.view_is c.requires in
    let is = c.next-next.ensures h.inside h.is in ap Some is ∙ sym (h.goes_on (rw is at c.if-next-self.false))
