use Rattle.std.proofs.Common.{ap, ◌∙◌, arith}
use Rattle.line_arena.specs.CellLists.{append_to}
use Rattle.line_arena.specs.Chains.{emptied, rings_of}
use Rattle.line_arena.proofs.Shows.{arena_from, same_sizes}
use Rattle.line_arena.proofs.chains.Chains.attach.Goals as goal

pub link_node_at_end-requires-clause-cell : goal.link_node_at_end-requires-clause-cell
link_node_at_end-requires-clause-cell g c =
    let a = c.requires.lacks.0 in let low = a.gap.0 in let most = a.total.1 in
    (omega (arith, low, most), c.requires.lacks.1)

pub returns-clause-arena : goal.returns-clause-arena
returns-clause-arena g c =
    let s = c.args.self.now in let x = c.args.cell in let l = c.args.list in let e = c.link_node_at_end.ensures in
    let new = c.link_node_at_end.new.self in
    arena_from l x c.requires.value.0 (emptied x s) new c.requires.lacks.0 c.requires.list e.tied e.total e.uses.0
    e.uses.1 (same_sizes s new (emptied x s).block new.block e.sizes)
    (e.rings ∙ ap (λ o. append_to l (x, o) (rings_of (emptied x s))) c.requires.value.1)
