use Rattle.std.proofs.Common.{ap, arith, length, ◌∙◌}
use Rattle.line_sets.specs.SetTable.{all_listed}
use Rattle.line_sets.proofs.TableLaws.{all-taken}
use Rattle.line_sets.proofs.sets.LineSets.gather_listed_lines.Goals as goal

pub returns-then-len-self : goal.returns-then-len-self
returns-then-len-self g c =
    let every = c.self.invariant.1 ∙ ap (λ t. length (all_listed g.V.Listed.is_listed t.sets)) c.self.view_is in
    let long = ap length c.loop-set.invariant in
    c.loop-set.invariant ∙ all-taken g.V.Listed.is_listed c.args.self.now.sets c.loop-set.set
    (omega (arith, long, c.len.ensures, c.if-len-self.true, every))
