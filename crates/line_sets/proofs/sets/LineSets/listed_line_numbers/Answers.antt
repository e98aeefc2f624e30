use Rattle.std.proofs.Common.{subst}
use Rattle.std.specs.Prelude.{List, ℕ, IsPermutation}
use Rattle.line_sets.specs.SetTable.{all_listed}
use Rattle.line_sets.proofs.sets.LineSets.listed_line_numbers.Goals as goal

pub returns : goal.returns
returns g c =
    c.sorted_is_unique.ensures (all_listed g.V.Listed.is_listed c.args.self.now.sets) c.sort_unstable.new.self.items
    (subst (λ (xs : List ℕ). IsPermutation xs c.sort_unstable.new.self.items) c.in_ok-lines.ensures
    c.sort_unstable.ensures.permutation)
    c.sort_unstable.ensures.sorted
