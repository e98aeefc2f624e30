use Rattle.std.proofs.Common.{◌≡◌, ◌+◌, ◌≤◌, length}
use Rattle.stop_flags.specs.Signalers.{AllNewSignalers, HasMade}
use Rattle.stop_flags.proofs.opening.open_other_signalers.Given as goal

abbrev pub invariant-loop-number : goal.invariant-loop-number
invariant-loop-number l =
    HasMade l.signals l.number l.first × (1 ≤ l.number) × (length l.others.items + 1 ≡ l.number)
    × AllNewSignalers l.signals 1 l.others.items
