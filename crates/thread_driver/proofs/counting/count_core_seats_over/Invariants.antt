use Rattle.std.proofs.Common.{◌≡◌, ◌+◌, ◌≤◌}
use Rattle.std.specs.List.{zip}
use Rattle.thread_driver.specs.Teams.{over_in}
use Rattle.thread_driver.proofs.Counted.{over_from}
use Rattle.thread_driver.proofs.counting.count_core_seats_over.Given as goal

abbrev pub invariant-loop-i : goal.invariant-loop-i
invariant-loop-i g l =
    (l.count ≤ l.i)
    × (l.count + over_from g.P.Program.acts l.i (zip l.cores l.programs) ≡ over_in g.P.Program.acts
    (zip l.cores l.programs))
