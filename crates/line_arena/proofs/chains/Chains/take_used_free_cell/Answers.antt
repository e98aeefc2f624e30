use Rattle.std.proofs.Common.{length, refl, ap, ◌∙◌}
use Rattle.line_arena.specs.Rings.{or_blank}
use Rattle.line_arena.proofs.FreeCells.{reused, spare_first}
use Rattle.line_arena.proofs.chains.Chains.take_used_free_cell.Goals as goal

pub next-self-requires : goal.next-self-requires
next-self-requires g c =
    let s = c.args.self.now in
    let first = spare_first (length s.heads.items) s.spares s.free s.block c.requires.some c.requires.arena.spare in
    (first.0, first.1)

pub returns-clause-lacks : goal.returns-clause-lacks
returns-clause-lacks g c =
    let s = c.args.self.now in
    let first = spare_first (length s.heads.items) s.spares s.free s.block c.requires.some c.requires.arena.spare in
    record {
      lacks = rw (c.next-self.ensures first.0 first.1)
          (reused s first.0 c.requires.arena c.requires.some first.1).0;
      filled = (first.0, first.1);
      blank = ap (λ o. (or_blank o).item) first.1 ∙ first.3;
    }

pub returns-clause-same : goal.returns-clause-same
returns-clause-same g c =
    let s = c.args.self.now in
    let first = spare_first (length s.heads.items) s.spares s.free s.block c.requires.some c.requires.arena.spare in
    ((reused s first.0 c.requires.arena c.requires.some first.1).1, refl)
