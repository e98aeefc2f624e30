-- Blocks whose neighbours have more than 64 numbers together, when one of them changes, comes or goes.
use Rattle.std.proofs.Common.{◌≡◌, ℕ, zero, suc, ◌+◌, ◌*◌, ◌<◌, ◌≤◌, List, [], ◌∷◌, ◌++◌, length, get_or, set, arith}
use Rattle.std.proofs.Common.{length-append}
use Rattle.std.specs.List.{insert, remove}
use Rattle.arrayvec.specs.ArrayVec.{ArrayVec}
use Rattle.ranked_lines.specs.Blocked.{joined, size_at, Filled, DenseBut, Dense}

-- neighbours that have more than 64 numbers together
dense-more : (n m : ℕ) (bs : List (ArrayVec ℕ)) → n ≤ m → Dense n bs → Dense m bs
dense-more n m [] le h = tt
dense-more n m (b ∷ bs) le h = let more = h.0 in (omega (arith, le, more), h.1)

pub dense-set : (n : ℕ) (bs : List (ArrayVec ℕ)) (k : ℕ) (d w : ArrayVec ℕ) →
    length (get_or bs k d).items ≤ length w.items → Dense n bs → Dense n (set bs k w)
dense-set n (b ∷ bs) zero d w le h = let more = h.0 in
    (omega (arith, le, more), dense-more (length b.items) (length w.items) bs le h.1)
dense-set n (b ∷ bs) (suc k) d w le h = (h.0, dense-set (length b.items) bs k d w le h.1)
dense-set n [] _ d w le h = tt

pub dense-dense-but : (i j n : ℕ) (bs : List (ArrayVec ℕ)) (k : ℕ) → Dense n bs → DenseBut i j n k bs
dense-dense-but i j n (b ∷ bs) zero h = let more = h.0 in
    (omega (arith, more), dense-more (length b.items) (length b.items + j) bs (omega arith) h.1)
dense-dense-but i j n (b ∷ bs) (suc k) h = (h.0, dense-dense-but i j (length b.items) bs k h.1)
dense-dense-but i j n [] _ h = tt

pub dense-but-past : (i j n : ℕ) (bs : List (ArrayVec ℕ)) (k : ℕ) → length bs ≤ k → DenseBut i j n k bs → Dense n bs
dense-but-past i j n [] k le h = tt
dense-but-past i j n (b ∷ bs) zero le h = absurd (omega (arith, le))
dense-but-past i j n (b ∷ bs) (suc k) le h = (h.0, dense-but-past i j (length b.items) bs k (omega (arith, le)) h.1)

pub dense-but-first : (bs : List (ArrayVec ℕ)) → DenseBut 1 0 65 0 bs → Dense 65 bs
dense-but-first [] h = tt
dense-but-first (b ∷ bs) h = (omega arith, dense-more (length b.items + 0) (length b.items) bs (omega arith) h.1)

pub dense-remove : (n : ℕ) (bs : List (ArrayVec ℕ)) (k : ℕ) → size_at k bs ≤ 1 → Dense n bs → Dense n (remove bs k)
dense-remove n [] zero few h = tt
dense-remove n (b ∷ c ∷ bs) zero few h = let low = h.0 in let high = h.1.0 in (omega (arith, few, low, high), h.1.1)
dense-remove n (b ∷ bs) (suc k) few h = (h.0, dense-remove (length b.items) bs k few h.1)
dense-remove n _ _ few h = tt

pub dense-but-set : (n : ℕ) (bs : List (ArrayVec ℕ)) (k : ℕ) (w : ArrayVec ℕ) → size_at k bs ≤ suc (length w.items) →
    Dense n bs → DenseBut 1 1 n k (set bs k w)
dense-but-set n (b ∷ bs) zero w few h = let more = h.0 in
    (omega (arith, few, more), dense-more (length b.items) (length w.items + 1) bs (omega (arith, few)) h.1)
dense-but-set n (b ∷ bs) (suc k) w few h = (h.0, dense-but-set (length b.items) bs k w few h.1)
dense-but-set n [] _ w few h = tt

lower-dense : (n m : ℕ) (bs : List (ArrayVec ℕ)) → 64 ≤ m → Filled bs → Dense n bs → Dense m bs
lower-dense n m [] le h s = tt
lower-dense n m (b ∷ bs) le h s = let some = h.0 in (omega (arith, le, some), s.1)

pub split-dense : (n : ℕ) (bs : List (ArrayVec ℕ)) (k : ℕ) (u w : ArrayVec ℕ) → 0 < n → Filled bs →
    64 ≤ length u.items → 64 ≤ length w.items → k < length bs → Dense n bs →
    Dense n (set (insert bs (suc k) u) k w)
split-dense n [] k u w some h le more lt s = absurd (omega (arith, lt))
split-dense n (b ∷ bs) zero u w some h le more lt s = (
  omega (arith, some, more),
  (omega (arith, le, more), lower-dense (length b.items) (length u.items) bs le h.1 s.1),
)
split-dense n (b ∷ bs) (suc k) u w some h le more lt s =
    (s.0, split-dense (length b.items) bs k u w h.0 h.1 le more (omega (arith, lt)) s.1)

pub dense-push : (n : ℕ) (bs : List (ArrayVec ℕ)) (b w : ArrayVec ℕ) → 64 < length b.items + length w.items →
    Dense n (bs ++ b ∷ []) → Dense n ((bs ++ b ∷ []) ++ w ∷ [])
dense-push n [] b w more h = (h.0, (more, tt))
dense-push n (c ∷ bs) b w more h = (h.0, dense-push (length c.items) bs b w more h.1)

-- a block beside the next one, which is joined to it or stays
pub pair-next : (n : ℕ) (bs : List (ArrayVec ℕ)) (k : ℕ) (w : ArrayVec ℕ) → suc k < length bs →
    length w.items ≡ size_at k bs + size_at (suc k) bs → DenseBut 1 1 n k bs →
    DenseBut 1 0 n k (set (remove bs (suc k)) k w)
pair-next n (b ∷ c ∷ bs) zero w lt e h = let more = h.0 in
    (omega (arith, e, more), dense-more (length c.items) (length w.items + 0) bs (omega (arith, e)) h.1.1)
pair-next n (b ∷ bs) (suc k) w lt e h = (h.0, pair-next (length b.items) bs k w (omega (arith, lt)) e h.1)
pair-next n _ _ w lt e h = absurd (omega (arith, lt))

pub pair-before : (n : ℕ) (bs : List (ArrayVec ℕ)) (k : ℕ) (w : ArrayVec ℕ) → suc k < length bs →
    length w.items ≡ size_at k bs + size_at (suc k) bs → DenseBut 1 0 n (suc k) bs →
    Dense n (set (remove bs (suc k)) k w)
pair-before n (b ∷ c ∷ bs) zero w lt e h = let more = h.0 in
    (omega (arith, e, more), dense-more (length c.items + 0) (length w.items) bs (omega (arith, e)) h.1.1)
pair-before n (b ∷ bs) (suc k) w lt e h = (h.0, pair-before (length b.items) bs k w (omega (arith, lt)) e h.1)
pair-before n _ _ w lt e h = absurd (omega (arith, lt))

pub last-next : (n : ℕ) (bs : List (ArrayVec ℕ)) (k : ℕ) → length bs ≤ suc k → DenseBut 1 1 n k bs → DenseBut 1 0 n k bs
last-next n (b ∷ []) zero le h = (h.0, tt)
last-next n (b ∷ c ∷ bs) zero le h = absurd (omega (arith, le))
last-next n (b ∷ bs) (suc k) le h = (h.0, last-next (length b.items) bs k (omega (arith, le)) h.1)
last-next n [] _ le h = tt

apart-next : (n : ℕ) (bs : List (ArrayVec ℕ)) (k : ℕ) → 64 < size_at k bs + size_at (suc k) bs →
    DenseBut 1 1 n k bs → DenseBut 1 0 n k bs
apart-next n (b ∷ []) zero more h = (h.0, tt)
apart-next n (b ∷ c ∷ bs) zero more h = (h.0, (omega (arith, more), h.1.1))
apart-next n (b ∷ bs) (suc k) more h = (h.0, apart-next (length b.items) bs k more h.1)
apart-next n [] _ more h = tt

apart-before : (n : ℕ) (bs : List (ArrayVec ℕ)) (k : ℕ) → suc k < length bs →
    64 < size_at k bs + size_at (suc k) bs → DenseBut 1 0 n (suc k) bs → Dense n bs
apart-before n (b ∷ c ∷ bs) zero lt more h =
    (h.0, (more, dense-more (length c.items + 0) (length c.items) bs (omega arith) h.1.1))
apart-before n (b ∷ bs) (suc k) lt more h = (h.0, apart-before (length b.items) bs k (omega (arith, lt)) more h.1)
apart-before n _ _ lt more h = absurd (omega (arith, lt))

pub stay-next : (bs : List (ArrayVec ℕ)) (k : ℕ) → 64 < size_at k bs + size_at (k + 1) bs →
    DenseBut 1 1 65 k bs → DenseBut 1 0 65 k bs
stay-next bs k more h = let next : k + 1 ≡ suc k = omega arith in apart-next 65 bs k (rw next at more) h

pub stay-before : (bs : List (ArrayVec ℕ)) (k : ℕ) → k + 1 < length bs → 64 < size_at k bs + size_at (k + 1) bs →
    DenseBut 1 0 65 (k + 1) bs → Dense 65 bs
stay-before bs k lt more h = let next : k + 1 ≡ suc k = omega arith in
    apart-before 65 bs k (omega (arith, lt)) (rw next at more) (rw next at h)

-- how many blocks there are
pub few-blocks : (n : ℕ) (bs : List (ArrayVec ℕ)) → Dense n bs → length bs * 32 ≤ length (joined bs) + 32
few-blocks n (b ∷ c ∷ bs) h =
    let later = few-blocks (length c.items) bs h.1.1 in let more = h.1.0 in
    let first = length-append b.items (c.items ++ joined bs) in let second = length-append c.items (joined bs) in
    omega (arith, later, more, first, second)
few-blocks n _ h = omega arith
