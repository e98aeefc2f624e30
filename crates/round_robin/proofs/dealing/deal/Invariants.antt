use Rattle.std.proofs.Common.{◌≡◌, ◌+◌, ◌/◌, ◌<◌, ◌++◌, List, length, map, reverse, All, vec_capacity}
use Rattle.round_robin.specs.Dealing.{IsDealtInTurn, total_length}
use Rattle.round_robin.proofs.dealing.deal.Given as goal

-- The front of the list is dealt, and the rest is still there, turned round. Each hand has room for its whole share.
abbrev pub invariant-loop-item : goal.invariant-loop-item
invariant-loop-item g l = record {
  dealt :
      (front : List g.row.T.Denot) × (length front ≡ l.at) × (front ++ reverse l.items.items ≡ l.fn.items.items)
      × IsDealtInTurn front l.first l.count (map (λ v. v.items) l.hands.items);
  total : total_length (map (λ v. v.items) l.hands.items) + length l.items.items ≡ length l.fn.items.items;
  room : All (λ v. length l.fn.items.items / l.count < vec_capacity v) l.hands.items;
  capacity : vec_capacity l.items ≡ vec_capacity l.fn.items;
  long : length l.hands.items ≡ length l.fn.hands.items;
  hands_capacity : vec_capacity l.hands ≡ vec_capacity l.fn.hands;
}

abbrev pub decreases-loop-item : goal.decreases-loop-item
decreases-loop-item g l = goal.left-loop-item g l
