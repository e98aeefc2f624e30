-- All cores' seats are given if their numbers are, counted from 0.
use Rattle.std.proofs.Common.{ℕ, List, arith}
use Rattle.closed_machine.specs.Numbers.{HasAll}
use Rattle.mailboxes.specs.declared.core_seat.CoreSeat.{CoreSeat}
use Rattle.mailboxes.specs.Seats.{HasCores}

pub has_cores : (ps : List CoreSeat) (count : ℕ) → HasAll (λ (p : CoreSeat). p.mail.number) ps 0 count →
    HasCores ps count
has_cores ps count all =
    record { there = λ j l. let h = all.there j l in (h.0, h.1, h.2, (let n = h.3 in omega arith)) }
