use Rattle.std.proofs.Common.{◌≡◌, ◌≤◌, None, replicate, vec_capacity}
use Rattle.line_sets.proofs.rows.Rows.new.Given as goal

abbrev pub invariant-loop : goal.invariant-loop
invariant-loop l = (l.places.items ≡ replicate l.counter None) × (l.fn.sets ≤ vec_capacity l.places)
