use Rattle.std.proofs.Common.{ℕ, ◌<◌}
use Rattle.drawn_numbers.specs.Drawers.{HasDrawer}
use Rattle.drawn_numbers.proofs.numbers.Numbers.is_whole.Given as goal

-- all drawers so far are there
abbrev pub invariant-loop-number : goal.invariant-loop-number
invariant-loop-number l = (j : ℕ) → j < l.number → HasDrawer l.drawers j
