use Rattle.std.proofs.Common.{◌≡◌, ℕ, vec_len}
use Rattle.std.specs.FinMap as finite
use Rattle.number_map.proofs.CopiedMaps.{found}
use Rattle.number_map.proofs.number_map.NumberMap.try_clone.Given as goal

abbrev pub invariant-loop-entry : goal.invariant-loop-entry
invariant-loop-entry g l = (q : ℕ) → found l.entries.items l.copy q ≡ finite.get l.self q

abbrev pub decreases-loop-entry : goal.decreases-loop-entry
decreases-loop-entry g l = vec_len l.entries
