use Rattle.std.proofs.Common.{◌≡◌, ◌≤◌}
use Rattle.machine_theorem.specs.Bags.{weigh}
use Rattle.machine_theorem.specs.Ownership.{ownership_in}
use Rattle.seat_views.specs.Seated.{over}
use Rattle.seat_rule.specs.Rule.{content}
use Rattle.closed_machine.specs.RunParts.{Parts}
use Rattle.closed_machine.proofs.run.Run.grants_in_slots.Given as goal

-- the grants and returns in the slots so far are counted
abbrev pub invariant-loop-slot : goal.invariant-loop-slot
invariant-loop-slot l =
    (l.count ≤ l.slot)
    × ((parts : Parts l.self) → l.count ≡ over l.slot (λ k. weigh (ownership_in l.fn.line) (content (parts.phases k))))
