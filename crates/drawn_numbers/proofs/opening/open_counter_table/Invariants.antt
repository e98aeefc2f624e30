use Rattle.std.proofs.Common.{◌≡◌, length}
use Rattle.drawn_numbers.proofs.opening.open_counter_table.Given as goal

abbrev pub invariant-loop : goal.invariant-loop
invariant-loop l = length l.lists.items ≡ l.counter
