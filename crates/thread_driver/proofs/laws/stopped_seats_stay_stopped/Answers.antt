use Rattle.mailboxes.specs.declared.core_seat.CoreSeat.{CoreSeat}
use Rattle.mailboxes.specs.declared.bank_seat.BankSeat.{BankSeat}
use Rattle.thread_driver.specs.Given.{IsBankTurn, IsCoreTurn}
use Rattle.thread_driver.proofs.Stops.{bank_reports, core_reports, turns_report}
use Rattle.thread_driver.proofs.laws.stopped_seats_stay_stopped.Goals as goal

pub returns-clause-cores : goal.returns-clause-cores
returns-clause-cores g c m p q before after n told given =
    let acts = g.P.Program.acts in
    (turns_report (IsCoreTurn acts m) (λ (z : CoreSeat × g.row.P.Denot). z.0.is_stopped) (core_reports acts m) given).1

pub returns-clause-banks : goal.returns-clause-banks
returns-clause-banks g c fair m p q n told given =
    (turns_report (IsBankTurn fair m) (λ (z : BankSeat). z.is_stopped) (bank_reports fair m) given).1
