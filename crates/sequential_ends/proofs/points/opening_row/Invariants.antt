use Rattle.std.proofs.Common.{◌≡◌, ◌++◌, replicate}
use Rattle.sequential_ends.proofs.points.opening_row.Given as goal

abbrev pub invariant-loop : goal.invariant-loop
invariant-loop l = l.row.items ≡ l.initial.row.items ++ replicate l.counter 0
