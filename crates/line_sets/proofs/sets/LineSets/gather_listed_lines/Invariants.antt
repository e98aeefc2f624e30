use Rattle.std.proofs.Common.{◌≡◌, take}
use Rattle.line_sets.specs.SetTable.{all_listed}
use Rattle.line_sets.proofs.sets.LineSets.gather_listed_lines.Given as goal

abbrev pub invariant-loop-set : goal.invariant-loop-set
invariant-loop-set g l = l.lines.items ≡ all_listed g.V.Listed.is_listed (take l.set l.self.sets)
