use Rattle.std.proofs.Common.{◌≡◌, ◌*◌, ◌≤◌}
use Rattle.machine_theorem.specs.Bags.{weigh}
use Rattle.machine_theorem.specs.Ownership.{ownership_in}
use Rattle.seat_views.specs.Seated.{over}
use Rattle.seat_rule.specs.Rule.{bag_of_hold}
use Rattle.closed_machine.specs.RunParts.{Parts}
use Rattle.closed_machine.proofs.run.Run.grants_with_seats.Given as goal

-- the grants and returns of the seats so far are counted
abbrev pub invariant-loop-number : goal.invariant-loop-number
invariant-loop-number l =
    (l.count ≤ 513 * l.number)
    × ((parts : Parts l.self) → l.count ≡ over l.number (λ j. weigh (ownership_in l.fn.line)
    (bag_of_hold (parts.seats j))))
