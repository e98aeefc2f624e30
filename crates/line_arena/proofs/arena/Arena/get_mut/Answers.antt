use Rattle.std.proofs.Common.{map, refl, sym, ◌∙◌}
use Rattle.line_arena.specs.CellLists.{rewritten}
use Rattle.line_arena.specs.Arenas.{lists_of}
use Rattle.line_arena.proofs.Places.{held}
use Rattle.line_arena.proofs.Rewrites.{arena_written}
use Rattle.line_arena.proofs.arena.Arena.get_mut.Goals as goal

pub value_mut-requires : goal.value_mut-requires
value_mut-requires g c =
    let h = held c.self.invariant c.self.view_is c.cell.view_is c.requires in (h.inside, h.value, h.is, h.item)

pub invariant_of-self-lent : goal.invariant_of-self-lent
invariant_of-self-lent g c =
    let h = held c.self.invariant c.self.view_is c.cell.view_is c.requires in
    λ w. (arena_written c.self.inside.chains c.self.invariant c.cell.inside.0 h.value w
    h.seen_as).0

pub returns : goal.returns
returns g c =
    let h = held c.self.invariant c.self.view_is c.cell.view_is c.requires in (
      (
        refl,
        λ w. (arena_written c.self.inside.chains c.self.invariant c.cell.inside.0 h.value w
            h.seen_as).1
            ∙ (λ k. lists_of (map (rewritten (c.cell.view_is k) w) (c.self.view_is k).lists) (c.self.view_is k).cells),
      ),
      record { writes_back = tt; value = h.found ∙ sym h.item ∙ c.value_mut.ensures.value h.inside h.is },
    )
