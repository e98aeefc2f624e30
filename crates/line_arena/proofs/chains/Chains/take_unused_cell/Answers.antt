use Rattle.std.proofs.Common.{None, refl, ap, ◌∙◌, arith}
use Rattle.line_arena.specs.Rings.{node, rings}
use Rattle.line_arena.proofs.EmptiedCells.{set_none, placed}
use Rattle.line_arena.proofs.chains.Chains.take_unused_cell.Goals as goal

pub returns : goal.returns
returns g c =
    let s = c.args.self.now in let x = s.used in let a = c.requires.arena in
    let none = a.uses.1 x (omega arith) in let some = c.requires.some in let cells = a.tied.tied.cells in
    let p = placed s.block x (node 0 0 0 None) (omega (arith, some, cells)) in
    let back = p.2 ∙ set_none s.block x none in
    rw c.put.ensures (record {
      lacks = record {
        lacks = rw back (record {
          tied = record { tied = a.tied.tied; small = a.tied.small };
          total = (omega (arith, a.total.0), omega (arith, some));
          gap = (omega arith, none);
          uses = λ y ne. ((λ lt. a.uses.0 y (omega arith)), λ le. a.uses.1 y (omega arith));
          loaded = a.loaded;
          spare = a.spare;
        });
        filled = p.0;
        blank = ap (λ m. m.item) p.1;
      };
      same = (ap (λ cs. rings cs s.heads.items) back, refl);
    })
