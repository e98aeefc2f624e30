use Rattle.std.proofs.Common.{◌≡◌, ◌-◌, ℕ, get_or, length}
use Rattle.tardis_c.proofs.lacks.extend_counts.Given as goal

abbrev pub invariant-loop-counts : goal.invariant-loop-counts
invariant-loop-counts l = (core : ℕ) → get_or l.counts.items core 0 ≡ get_or l.initial.counts.items core 0

abbrev pub decreases-loop-counts : goal.decreases-loop-counts
decreases-loop-counts l = l.number - length l.counts.items
