use Rattle.std.proofs.Common.{length, Some, None, refl}
use Rattle.std.proofs.lemmas.List.{set-set}
use Rattle.line_arena.specs.Rings.{node, at}
use Rattle.line_arena.specs.Chains.{emptied}
use Rattle.line_arena.proofs.FreeCells.{released}
use Rattle.line_arena.proofs.chains.Chains.release.Goals as goal

pub returns : goal.returns
returns g c =
    let s = c.args.self.now in let x = c.args.cell in let p = (at s.block x).prev in
    let made = released x p (emptied x s) c.requires.0 in
    let once = set-set s.block x None (Some (node p s.free (length s.heads.items) None)) in
    rw (c.set_cell_free-item.ensures.after, c.lists-lists.ensures) (record {
      value = c.set_cell_free-item.ensures.value;
      arena = rw once at made.0;
      lists = rw once at made.1;
      sizes = refl;
    })
