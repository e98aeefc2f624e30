use Rattle.std.proofs.Common.{ℕ, ◌≡◌, ◌≤◌, ◌<◌, ◌-◌, ◌+◌, ◌/◌, [], ◌∷◌, ◌++◌, length, take}
use Rattle.std.specs.Prelude.{vec_capacity}
use Rattle.arrayvec.specs.ArrayVec.{ArrayVec}
use Rattle.ranked_lines.specs.Blocked.{joined, Filled, Dense}
use Rattle.ranked_lines.proofs.blocks.Blocks.of.Given as goal

abbrev pub invariant-loop-from : goal.invariant-loop-from
invariant-loop-from l = record {
  within : l.from ≤ length l.numbers;
  done : joined l.blocks.items ≡ take l.from l.numbers;
  filled : Filled l.blocks.items;
  dense : Dense 65 l.blocks.items;
  room : l.fn.most / 32 + 2 ≤ vec_capacity l.blocks;
  ready : (w : ArrayVec ℕ) → 0 < length w.items → l.from < length l.numbers → Dense 65 (l.blocks.items ++ w ∷ []);
}

abbrev pub decreases-loop-from : goal.decreases-loop-from
decreases-loop-from l = length l.numbers - l.from
