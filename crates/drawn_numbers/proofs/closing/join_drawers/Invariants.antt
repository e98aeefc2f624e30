use Rattle.std.proofs.Common.{◌≡◌, ◌++◌, List}
use Rattle.drawn_numbers.specs.declared.drawer.Drawer.{Drawer}
use Rattle.drawn_numbers.specs.Dealt.{knows_all, lists_filled}
use Rattle.drawn_numbers.proofs.closing.join_drawers.Given as goal

-- the drawers that are no longer in the list are known, and what they drew is at their numbers
abbrev pub invariant-loop-drawer : goal.invariant-loop-drawer
invariant-loop-drawer l =
    (l.seat.table_id ≡ l.initial.seat.table_id) × (l.seat.id ≡ l.initial.seat.id)
    × ((done : List Drawer) × (l.initial.drawers.items ≡ l.drawers.items ++ done)
    × (l.seat.me ≡ (knows_all l.initial.seat.me.0 done, l.initial.seat.me.1))
    × (l.lists.items ≡ lists_filled done l.initial.lists.items))

abbrev pub decreases-loop-drawer : goal.decreases-loop-drawer
decreases-loop-drawer l = goal.left-loop-drawer l
