use Rattle.std.proofs.Common.{◌≡◌, ◌+◌, ◌≤◌, length}
use Rattle.mailboxes.specs.Seats.{AllNewCores, HasMade}
use Rattle.mailboxes.proofs.opening.open_cores.Given as goal

abbrev pub invariant-loop-number : goal.invariant-loop-number
invariant-loop-number l =
    HasMade l.machine l.number l.first × (1 ≤ l.number) × (length l.cores.items + 1 ≡ l.number)
    × AllNewCores l.machine 1 l.cores.items
