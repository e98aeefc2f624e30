use Rattle.std.proofs.Common.{◌≡◌, ◌-◌, ◌++◌, List, length, map, reverse, vec_capacity}
use Rattle.round_robin.specs.Dealing.{IsDealtInTurn, HasLengths}
use Rattle.round_robin.proofs.gathering.gather.Given as goal

-- The hands still have the lengths of the items that are left. A list of which the hands are dealt now, with what was
-- gathered turned round behind it, is one of which the hands were dealt at first.
abbrev pub invariant-loop-i : goal.invariant-loop-i
invariant-loop-i g l = record {
  lengths : HasLengths (l.count - l.i) l.first l.hands (map (λ v. v.items) l.dealt.items);
  dealt :
      (front : List g.row.T.Denot) → length front ≡ l.count - l.i
      → IsDealtInTurn front l.first l.hands (map (λ v. v.items) l.dealt.items)
      → IsDealtInTurn (front ++ reverse l.items.items) l.first l.hands (map (λ v. v.items) l.fn.dealt.items);
  gathered : length l.items.items ≡ l.i;
  capacity : vec_capacity l.items ≡ vec_capacity l.fn.items;
}
