use Rattle.std.proofs.Common.{◌≡◌, ◌==◌, ℕ, take, get_or, count_by}
use Rattle.tardis_c.proofs.lacks.count_items_by_core.Given as goal

abbrev pub invariant-loop-item : goal.invariant-loop-item
invariant-loop-item g l =
    (core : ℕ) → get_or l.counts.items core 0 ≡ count_by (λ item. g.T.OfCore.core item == core) (take l.item-index
    l.items)
