use Rattle.std.proofs.Common.{◌≡◌, ◌≤◌}
use Rattle.private_cache.specs.CopyTable.{copy_of}
use Rattle.machine_theorem.specs.Coherence.{owner_in}
use Rattle.seat_views.specs.Seated.{over}
use Rattle.closed_machine.specs.RunParts.{Parts}
use Rattle.closed_machine.proofs.run.Run.exclusive_copies.Given as goal

-- the Exclusive copies of the cores so far are counted
abbrev pub invariant-loop-core : goal.invariant-loop-core
invariant-loop-core l =
    (l.count ≤ l.core)
    × ((parts : Parts l.self) → l.count ≡ over l.core (λ c. owner_in (copy_of (parts.seats c).core.cache l.fn.line)))
