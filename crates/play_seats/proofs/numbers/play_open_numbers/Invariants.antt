use Rattle.drawn_numbers.specs.Drawers.{AllDrawersOf}
use Rattle.play_seats.proofs.numbers.play_open_numbers.Given as goal

abbrev pub invariant-loop : goal.invariant-loop
invariant-loop g l = AllDrawersOf l.numbers l.drawers.items
