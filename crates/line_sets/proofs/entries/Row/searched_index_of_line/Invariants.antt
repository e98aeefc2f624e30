use Rattle.std.proofs.Common.{◌≡◌, ◌≢◌, ◌<◌, ◌≤◌, ℕ, get_or, Some}
use Rattle.std.specs.Prelude.{option_map}
use Rattle.line_arena.specs.CellLists.{look_up}
use Rattle.line_sets.proofs.entries.Row.searched_index_of_line.Given as goal

-- none of the places from here on is the line's
abbrev pub invariant-loop-left : goal.invariant-loop-left
invariant-loop-left g l =
    (l.left ≤ l.self.count) × ((k : ℕ) → l.left ≤ k → k < l.self.count → get_or l.self.tags k 0 ≡ l.tag →
    option_map (λ p. p.0) (look_up (get_or l.self.cells k 0) l.arena.lists) ≢ Some l.line)

abbrev pub decreases-loop-left : goal.decreases-loop-left
decreases-loop-left g l = l.left
