use Rattle.std.proofs.Common.{◌≡◌, ◌+◌, length}
use Rattle.mailboxes.specs.Seats.{AllNewBanks, HasMade}
use Rattle.mailboxes.proofs.opening.open_banks.Given as goal

abbrev pub invariant-loop-number : goal.invariant-loop-number
invariant-loop-number l =
    HasMade l.machine (l.machine.set_up.config.cores + l.number) l.first × (length l.banks.items ≡ l.number)
    × AllNewBanks l.machine l.machine.set_up.config.cores l.banks.items
