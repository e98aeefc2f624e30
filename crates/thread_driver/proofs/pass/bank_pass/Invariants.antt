use Rattle.std.proofs.Common.{◌≡◌, length}
use Rattle.thread_driver.specs.Given.{IsBankTurn}
use Rattle.thread_driver.specs.Teams.{PassGiven}
use Rattle.thread_driver.proofs.pass.bank_pass.Given as goal

abbrev pub invariant-loop-i : goal.invariant-loop-i
invariant-loop-i g l =
    PassGiven (IsBankTurn l.fair l.machine) l.limit l.i l.fn.had l.fn.banks.items l.all l.had l.banks.items
    × (length l.banks.items ≡ length l.fn.banks.items) × (length l.had ≡ length l.fn.had)
