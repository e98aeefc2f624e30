-- A list of numbers that is kept in blocks.
use Rattle.std.specs.Prelude.{◌≡◌, ℕ, zero, suc, ◌+◌, ◌<◌, ◌≤◌, List, [], ◌∷◌, ◌++◌, length, if◌then◌else◌}
use Rattle.arrayvec.specs.ArrayVec.{ArrayVec}
use Rattle.ranked_lines.specs.Rising.{all_below}

-- the numbers of all blocks, block by block
abbrev pub joined : List (ArrayVec ℕ) → List ℕ
joined [] = []
joined (b ∷ bs) = b.items ++ joined bs

-- no block is empty
abbrev pub Filled : List (ArrayVec ℕ) → Type 0
Filled [] = Unit {0}
Filled (b ∷ bs) = (0 < length b.items) × Filled bs

-- how many blocks from the front on have no number but such below x
abbrev pub block_at : ℕ → List (ArrayVec ℕ) → ℕ
block_at x [] = 0
block_at x (b ∷ bs) = if all_below x b.items then 1 + block_at x bs else 0

-- x belongs to the k-th block: the first one that ends at x or above, or else the last one
abbrev pub IsPlaceOf : ℕ → ℕ → List (ArrayVec ℕ) → Type 0
IsPlaceOf x k bs = (k < length bs) × (k ≤ block_at x bs) × (k + 1 < length bs → k ≡ block_at x bs)

-- how many numbers the k-th block has
abbrev pub size_at : ℕ → List (ArrayVec ℕ) → ℕ
size_at k [] = 0
size_at zero (b ∷ bs) = length b.items
size_at (suc k) (b ∷ bs) = size_at k bs

-- two neighbours have more than 64 numbers together; the block before the first one of the list has n, or is none and
-- n is 65
abbrev pub Dense : ℕ → List (ArrayVec ℕ) → Type 0
Dense n [] = Unit {0}
Dense n (b ∷ bs) = (64 < n + length b.items) × Dense (length b.items) bs

-- they would, had the k-th block i numbers more beside the one before it, and j more beside the next one
abbrev pub DenseBut : ℕ → ℕ → ℕ → ℕ → List (ArrayVec ℕ) → Type 0
DenseBut i j n k [] = Unit {0}
DenseBut i j n zero (b ∷ bs) = (64 < n + length b.items + i) × Dense (length b.items + j) bs
DenseBut i j n (suc k) (b ∷ bs) = (64 < n + length b.items) × DenseBut i j (length b.items) k bs
