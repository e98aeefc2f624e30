use Rattle.std.proofs.Common.{◌≡◌}
use Rattle.line_sets.proofs.RowLaws.{IsHalfway}
use Rattle.line_sets.proofs.rows.Rows.clear.Given as goal

-- so many sets have no line any more, and the list of sets is unchanged
abbrev pub invariant-loop-at : goal.invariant-loop-at
invariant-loop-at l =
    let old = l.initial.self-inside in
    IsHalfway l.at old.places.items l.self-inside.places.items l.self-inside.rows.items
    × (l.self-inside.sets ≡ old.sets)
