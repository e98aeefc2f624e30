use Rattle.std.proofs.Common.{◌≡◌, ◌+◌, ◌<◌, ◌∷◌, List, length, ap, subst, sym, arith, ◌∙◌}
use Rattle.seat_rule.specs.declared.views.SetUp.{SetUp}
use Rattle.seat_rule.specs.Rule.{seat_count}
use Rattle.mailboxes.specs.declared.core_seat.CoreSeat.{CoreSeat}
use Rattle.mailboxes.specs.Seats.{AllNewCores, AllNewBanks}
use Rattle.mailboxes.proofs.NewSeats.{new_core, front_core}
use Rattle.mailboxes.proofs.opening.open_seats.Goals as goal

pub returns-clause-cores : goal.returns-clause-cores
returns-clause-cores c =
    let m = c.in_ok-machine.machine in
    let same = ap (λ (z : SetUp). z.config.cores) c.in_ok-machine.ensures.0 in
    let made = c.in_ok-banks.ensures.first in
    let new = c.in_ok-first.ensures in
    let others = c.in_ok-cores.ensures.cores in
    let ps : List CoreSeat = c.in_ok-cores.cores.items in
    let p : CoreSeat = c.in_ok-first.first in
    let items : c.insert.new.self.items ≡ p ∷ ps = c.in_ok-insert.ensures.items in
    let long : length c.insert.new.self.items ≡ length (p ∷ ps) = ap length items in
    let count : length ps + 1 ≡ m.set_up.config.cores = others.0 in
    let some : 0 < m.set_up.config.cores = omega arith in
    let first = new_core m 0 p c.open_banks.new.first some made.1.0 (ap (λ y. y.0.mine) made.1.1) new.0 new.1 new.2
    new.3 new.4 new.5 new.6 (c.seats_stand.ensures.opened m.set_up (seat_count m.set_up) 0) in
    (omega arith, subst (AllNewCores m 0) (sym items) (front_core m ps p others.1 first))

pub returns-clause-banks : goal.returns-clause-banks
returns-clause-banks c =
    let same = c.in_ok-machine.ensures.0 in
    let banks = c.in_ok-banks.ensures.banks in (
      banks.0 ∙ ap (λ (z : SetUp). z.config.banks) same,
      subst (λ (z : SetUp). AllNewBanks c.in_ok-machine.machine z.config.cores c.in_ok-banks.banks.items) same banks.1,
    )
