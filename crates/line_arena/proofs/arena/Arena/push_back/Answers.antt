use Rattle.std.proofs.Common.{refl, sym, ap, ◌∙◌}
use Rattle.line_arena.specs.CellLists.{look_up}
use Rattle.line_arena.specs.Arenas.{shown}
use Rattle.line_arena.specs.Chains.{emptied, rings_of}
use Rattle.line_arena.proofs.Shows.{pushed_to}
use Rattle.line_arena.proofs.Counts.{fresh}
use Rattle.line_arena.proofs.arena.Arena.push_back.Goals as goal

pub fill-before-requires-clause-lacks : goal.fill-before-requires-clause-lacks
fill-before-requires-clause-lacks g c = (c.in-Some.ensures.lacks.lacks, c.in-Some.ensures.lacks.filled)

pub unreachable-requires : goal.unreachable-requires
unreachable-requires g c = c.in_default.not-None (c.fill-before.ensures.value ∙ c.in-Some.ensures.lacks.blank)

pub returns-in-None-before-clause-after : goal.returns-in-None-before-clause-after
returns-in-None-before-clause-after g c =
    pushed_to (rings_of (emptied c.in-Some.cell c.take_free_cell.new.self)) c.fill-before.new.self c.args.item
    (ap shown c.in-Some.ensures.same.0 ∙ ap (λ a. a.lists) c.self.view_is) c.requires refl
    c.fill-before.ensures.lists
    (c.fill-before.ensures.sizes.0 ∙ c.in-Some.ensures.same.1 ∙ ap (λ a. a.cells) c.self.view_is)

pub returns-in-None-before-clause-fresh : goal.returns-in-None-before-clause-fresh
returns-in-None-before-clause-fresh g c =
    ap (look_up c.in-Some.cell) (sym (ap shown c.in-Some.ensures.same.0 ∙ ap (λ a. a.lists) c.self.view_is))
    ∙ fresh c.in-Some.cell (emptied c.in-Some.cell c.take_free_cell.new.self) c.in-Some.ensures.lacks.lacks
