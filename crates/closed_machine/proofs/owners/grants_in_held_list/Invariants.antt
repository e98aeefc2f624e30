use Rattle.std.proofs.Common.{◌≡◌, ◌≤◌, take}
use Rattle.machine_theorem.specs.Bags.{weigh}
use Rattle.machine_theorem.specs.Ownership.{ownership_in}
use Rattle.closed_machine.proofs.owners.grants_in_held_list.Given as goal

-- the grants and returns among the messages so far are counted
abbrev pub invariant-loop-at : goal.invariant-loop-at
invariant-loop-at l = (l.count ≤ l.at) × (l.count ≡ weigh (ownership_in l.fn.line) (take l.at l.inbox.held))
