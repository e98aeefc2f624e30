use Rattle.std.proofs.Common.{◌≡◌, length}
use Rattle.std.specs.List.{zip}
use Rattle.thread_driver.specs.Given.{IsCoreTurn}
use Rattle.thread_driver.specs.Teams.{PassGiven}
use Rattle.thread_driver.proofs.pass.core_pass.Given as goal

abbrev pub invariant-loop-i : goal.invariant-loop-i
invariant-loop-i g l =
    PassGiven (IsCoreTurn g.P.Program.acts l.machine) l.limit l.i l.fn.had (zip l.fn.cores.items l.fn.programs.items)
    l.all l.had (zip l.cores.items l.programs.items)
    × (length l.cores.items ≡ length l.fn.cores.items) × (length l.programs.items ≡ length l.fn.programs.items)
    × (length l.had ≡ length l.fn.had)
