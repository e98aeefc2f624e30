use Rattle.std.proofs.Common.{Some, ap}
use Rattle.line_arena.specs.Rings.{at, with_item}
use Rattle.line_arena.proofs.Edits.{within}
use Rattle.line_arena.proofs.EmptiedCells.{placed}
use Rattle.line_arena.proofs.chains.Chains.fill.Goals as goal

pub attach-requires : goal.attach-requires
attach-requires g c =
    let s = c.args.self.now in let x = c.args.cell in let full = c.requires.lacks.1 in
    let p = placed s.block x (with_item (Some c.args.item) (at s.block x)) (within s.block x full.0 full.1) in
    rw c.set_cell_value-before.ensures.after (record {
      lacks = (rw p.2 c.requires.lacks.0, p.0);
      list = c.requires.list;
      value = (c.args.item, ap (λ m. m.item) p.1);
    })

pub returns-clause-lists : goal.returns-clause-lists
returns-clause-lists g c =
    let s = c.args.self.now in let x = c.args.cell in let full = c.requires.lacks.1 in
    let p = placed s.block x (with_item (Some c.args.item) (at s.block x)) (within s.block x full.0 full.1) in
    let lists = rw c.set_cell_value-before.ensures.after at c.attach.ensures.lists in
    rw (ap (λ m. m.item) p.1, p.2) at lists
