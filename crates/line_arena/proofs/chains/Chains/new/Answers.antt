use Rattle.std.proofs.Common.{sym, ap, subst, ◌∙◌, arith}
use Rattle.line_arena.specs.Rings.{Tied, rings}
use Rattle.line_arena.proofs.Starts.{tied_new, total_zero}
use Rattle.line_arena.proofs.chains.Chains.new.Goals as goal

pub returns-clause-tied : goal.returns-clause-tied
returns-clause-tied g c =
    let X = g.row.T.Denot in let n = c.args.cells in let m = c.args.lists in let hs = c.in_ok-heads.heads.items in
    let made = c.in_ok-heads.ensures in
    let cells = c.in_ok-block.ensures in
    record {
      tied = subst (λ cs. Tied cs n hs (rings cs hs)) (sym cells) (tied_new {X = X} n m hs made).0;
      small =
          (c.requires.0, omega (arith, c.requires.1, made.many));
    }

pub returns-clause-empty : goal.returns-clause-empty
returns-clause-empty g c =
    let X = g.row.T.Denot in let n = c.args.cells in let m = c.args.lists in let hs = c.in_ok-heads.heads.items in
    let made = c.in_ok-heads.ensures in
    let cells = c.in_ok-block.ensures in (
      ap (λ cs. rings cs hs) cells ∙ (tied_new {X = X} n m hs made).1,
      total_zero hs
          (λ l lt. ap (λ h. h.count) (made.each l (omega (arith, made.many, lt)))),
    )
