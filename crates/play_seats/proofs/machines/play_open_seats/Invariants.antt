use Rattle.mailboxes.specs.Seats.{AllBankSeats, AllCoreSeats}
use Rattle.play_seats.proofs.machines.play_open_seats.Given as goal

abbrev pub invariant-loop : goal.invariant-loop
invariant-loop g l = AllCoreSeats l.machine l.cores.items × AllBankSeats l.machine l.banks.items
