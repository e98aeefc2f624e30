use Rattle.std.proofs.Common.{◌≡◌}
use Rattle.mailboxes.specs.Seats.{IsCoreSeat}
use Rattle.thread_driver.specs.Given.{IsCoreTurn}
use Rattle.thread_driver.specs.Playing.{IsAhead}
use Rattle.thread_driver.specs.Teams.{row_end}
use Rattle.thread_driver.proofs.Passes.{RowSoFar}
use Rattle.thread_driver.proofs.pass.core_turns_in_row.Given as goal

abbrev pub invariant-loop-turn : goal.invariant-loop-turn
invariant-loop-turn g l =
    IsCoreSeat l.machine l.seat × IsAhead g.P.Program.acts l.seat l.program × (l.has ≡ l.turn)
    × RowSoFar (IsCoreTurn g.P.Program.acts l.machine) (row_end l.limit l.fn.had) l.fn.had
    (l.fn.seat, l.fn.program) l.all
    l.turn (l.seat, l.program)
