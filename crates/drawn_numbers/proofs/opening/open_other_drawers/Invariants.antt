use Rattle.std.proofs.Common.{◌≡◌, ◌+◌, ◌≤◌, length}
use Rattle.drawn_numbers.specs.Drawers.{AllNewDrawers, HasMade}
use Rattle.drawn_numbers.proofs.opening.open_other_drawers.Given as goal

abbrev pub invariant-loop-number : goal.invariant-loop-number
invariant-loop-number l =
    HasMade l.numbers l.number l.first × (1 ≤ l.number) × (length l.others.items + 1 ≡ l.number)
    × AllNewDrawers l.numbers 1 l.others.items
