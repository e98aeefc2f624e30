use Rattle.line_sets.proofs.ListedChanges.{distinct-everywhere}
use Rattle.line_sets.proofs.sets.LineSets.count_listed_lines.Goals as goal

pub returns-clause-once : goal.returns-clause-once
returns-clause-once g c =
    λ set. rw (← c.self.view_is) (distinct-everywhere g.V.Listed.is_listed c.self.invariant.0 set)
