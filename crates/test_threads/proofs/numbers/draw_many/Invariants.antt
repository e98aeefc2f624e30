use Rattle.std.proofs.Common.{◌≡◌}
use Rattle.drawn_numbers.specs.Drawers.{IsDrawerOf}
use Rattle.test_threads.proofs.numbers.draw_many.Given as goal

abbrev pub invariant-loop : goal.invariant-loop
invariant-loop l = IsDrawerOf l.numbers l.drawer × (l.drawer.number ≡ l.initial.drawer.number)
