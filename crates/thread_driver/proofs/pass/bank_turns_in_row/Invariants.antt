use Rattle.std.proofs.Common.{◌≡◌}
use Rattle.mailboxes.specs.Seats.{IsBankSeat}
use Rattle.thread_driver.specs.Given.{IsBankTurn}
use Rattle.thread_driver.specs.Teams.{row_end}
use Rattle.thread_driver.proofs.Passes.{RowSoFar}
use Rattle.thread_driver.proofs.pass.bank_turns_in_row.Given as goal

abbrev pub invariant-loop-turn : goal.invariant-loop-turn
invariant-loop-turn g l =
    IsBankSeat l.machine l.seat × (l.has ≡ l.turn)
    × RowSoFar (IsBankTurn l.fair l.machine) (row_end l.limit l.fn.had) l.fn.had l.fn.seat l.all l.turn l.seat
