-- Rising lists: the one list of its numbers that rises, and the number at an index of it.
use Rattle.std.proofs.Common.{◌≡◌, ℕ, suc, ◌+◌, ◌<◌, ◌≤◌, cond, eqb, ltb, List, [], ◌∷◌}
use Rattle.std.proofs.Common.{◌++◌, length, get_or, None, Some, refl, sym, ap, ◌∙◌, arith, IsPermutation}
use Rattle.std.proofs.Common.{IsSorted}
use Rattle.std.specs.List.{slice_get, sum_by}
use Rattle.std.specs.List.Sorted.{IsSplitAround, IsNonDecreasing}
use Rattle.std.specs.Ordering.{nat_cmp}
use Rattle.std.proofs.lemmas.Bool.{cond_both}
use Rattle.std.proofs.lemmas.List.Sorted.{sum_by-IsPermutation, IsNonDecreasingBy-from_sort, IsPermutation-refl}
use Rattle.std.proofs.lemmas.List.Sorted.{IsPermutation-cons, IsPermutation-middle, IsPermutation-sym}
use Rattle.std.proofs.lemmas.List.Sorted.{IsPermutation-trans}
use Rattle.std.proofs.lemmas.List.Recursion.{is_sum_by}
use Rattle.std.proofs.lemmas.Map.Keys.{ge_from_not_lt}
use Rattle.ranked_lines.specs.Rising.{all_but, put_in, sorted, tally, AllFrom, Rises}

-- no number is above x
abbrev pub AllTo : ℕ → List ℕ → Type 0
AllTo x [] = Unit {0}
AllTo x (y ∷ ys) = (y ≤ x) × AllTo x ys

-- permutations keep tallies
tally-sum : (c : ℕ) (xs : List ℕ) → tally c xs ≡ sum_by (λ y. cond (eqb y c) 1 0) xs
tally-sum c xs = is_sum_by (tally c) (λ y. cond (eqb y c) 1 0) refl (λ y ys. refl) xs

tally-permuted : (c : ℕ) (xs ys : List ℕ) → IsPermutation xs ys → tally c ys ≡ tally c xs
tally-permuted c xs ys p =
    tally-sum c ys ∙ sum_by-IsPermutation (λ y. cond (eqb y c) 1 0) xs ys p ∙ sym (tally-sum c xs)

-- a number put in is counted once more
pub tally-put_in : (c x : ℕ) (ys : List ℕ) → tally c (put_in x ys) ≡ cond (eqb x c) 1 0 + tally c ys
tally-put_in c x [] = refl
tally-put_in c x (y ∷ ys) = let later = tally-put_in c x ys in grind arith

pub tally-sorted : (c : ℕ) (xs : List ℕ) → tally c (sorted xs) ≡ tally c xs
tally-sorted c [] = refl
tally-sorted c (x ∷ xs) = tally-put_in c x (sorted xs) ∙ ap (λ n. cond (eqb x c) 1 0 + n) (tally-sorted c xs)

tally-append : (c : ℕ) (xs ys : List ℕ) → tally c (xs ++ ys) ≡ tally c xs + tally c ys
tally-append c [] ys = omega arith
tally-append c (x ∷ xs) ys = let later = tally-append c xs ys in omega (arith, later)

-- bounds
pub from-weaker : (a b : ℕ) (xs : List ℕ) → a ≤ b → AllFrom b xs → AllFrom a xs
from-weaker a b [] le h = tt
from-weaker a b (x ∷ xs) le h = (let first = h.0 in omega (arith, le, first), from-weaker a b xs le h.1)

from-put_in : (b x : ℕ) (ys : List ℕ) → b ≤ x → AllFrom b ys → AllFrom b (put_in x ys)
from-put_in b x [] le h = (le, tt)
from-put_in b x (y ∷ ys) le h = let later = from-put_in b x ys le h.1 in grind arith

to-put_in : (b x : ℕ) (ys : List ℕ) → x ≤ b → AllTo b ys → AllTo b (put_in x ys)
to-put_in b x [] le h = (le, tt)
to-put_in b x (y ∷ ys) le h = let later = to-put_in b x ys le h.1 in grind arith

from-sorted : (b : ℕ) (xs : List ℕ) → AllFrom b xs → AllFrom b (sorted xs)
from-sorted b [] h = tt
from-sorted b (x ∷ xs) h = from-put_in b x (sorted xs) h.0 (from-sorted b xs h.1)

to-sorted : (b : ℕ) (xs : List ℕ) → AllTo b xs → AllTo b (sorted xs)
to-sorted b [] h = tt
to-sorted b (x ∷ xs) h = to-put_in b x (sorted xs) h.0 (to-sorted b xs h.1)

-- what is sorted rises
pub rises-put_in : (x : ℕ) (ys : List ℕ) → Rises ys → Rises (put_in x ys)
rises-put_in x [] h = (tt, tt)
rises-put_in x (y ∷ ys) h = let low = from-put_in y x ys in let weaker = from-weaker x y ys in
    let later = rises-put_in x ys h.1 in grind arith

pub rises-sorted : (xs : List ℕ) → Rises (sorted xs)
rises-sorted [] = tt
rises-sorted (x ∷ xs) = rises-put_in x (sorted xs) (rises-sorted xs)

-- and has the same numbers
permuted-put_in : (x : ℕ) (ys : List ℕ) → IsPermutation (x ∷ ys) (put_in x ys)
permuted-put_in x [] = IsPermutation-refl (x ∷ [])
permuted-put_in x (y ∷ ys) = cond_both (ltb y x) (y ∷ put_in x ys) (x ∷ y ∷ ys) (IsPermutation (x ∷ y ∷ ys))
    (λ e. IsPermutation-trans (x ∷ y ∷ ys) (y ∷ x ∷ ys) (y ∷ put_in x ys)
    (IsPermutation-sym (y ∷ x ∷ ys) (x ∷ y ∷ ys) (IsPermutation-middle (y ∷ []) x ys))
    (IsPermutation-cons y (x ∷ ys) (put_in x ys) (permuted-put_in x ys)))
    (λ e. IsPermutation-refl (x ∷ y ∷ ys))

pub permuted-sorted : (xs : List ℕ) → IsPermutation xs (sorted xs)
permuted-sorted [] = IsPermutation-refl []
permuted-sorted (x ∷ xs) = IsPermutation-trans (x ∷ xs) (x ∷ sorted xs) (put_in x (sorted xs))
    (IsPermutation-cons x xs (sorted xs) (permuted-sorted xs)) (permuted-put_in x (sorted xs))

-- a number below all isn't there
pub tally-none : (c : ℕ) (xs : List ℕ) (b : ℕ) → c < b → AllFrom b xs → tally c xs ≡ 0
tally-none c [] b lt h = refl
tally-none c (x ∷ xs) b lt h = let later = tally-none c xs b lt h.1 in grind arith

tally-first : (x : ℕ) (xs : List ℕ) → 1 ≤ tally x (x ∷ xs)
tally-first x xs = grind arith

-- two rising lists of the same numbers begin with the same
first-least : (x y : ℕ) (xs ys : List ℕ) → AllFrom y ys → tally x (x ∷ xs) ≡ tally x (y ∷ ys) → y ≤ x
first-least x y xs ys h e = let none = tally-none x ys y in let one = tally-first x xs in grind arith

-- two rising lists of the same numbers are one
pub one-sorted : (xs ys : List ℕ) → Rises xs → Rises ys → ((c : ℕ) → tally c xs ≡ tally c ys) → xs ≡ ys
one-sorted [] [] r s h = refl
one-sorted [] (y ∷ ys) r s h = absurd (let one = tally-first y ys in let none = h y in omega (arith, one, none))
one-sorted (x ∷ xs) [] r s h = absurd (let one = tally-first x xs in let none = h x in omega (arith, one, none))
one-sorted (x ∷ xs) (y ∷ ys) r s h =
    let up : y ≤ x = first-least x y xs ys s.0 (h x) in
    let down : x ≤ y = first-least y x ys xs r.0 (sym (h y)) in
    let same : x ≡ y = omega (arith, up, down) in
    let rest : xs ≡ ys = one-sorted xs ys r.1 s.1 (λ c.
    (let all = h c in
    let here : ◌≡◌ {A = ℕ} (cond (eqb x c) 1 0) (cond (eqb y c) 1 0) = ap (λ z. cond (eqb z c) 1 0) same in
    omega (arith, all, here))) in
    ap (λ z. z ∷ xs) same ∙ ap (λ zs. y ∷ zs) rest

-- a list that rises and has the numbers of another
pub sorted-by : (xs ys : List ℕ) → IsPermutation xs ys → Rises ys → sorted xs ≡ ys
sorted-by xs ys p r = one-sorted (sorted xs) ys (rises-sorted xs) r (λ c.
    tally-sorted c xs ∙ sym (tally-permuted c xs ys p))

-- a sorted list rises
from-all : (x : ℕ) (ys : List ℕ) → ((j : ℕ) (d : ℕ) → j < length ys → x ≤ get_or ys j d) → AllFrom x ys
from-all x [] h = tt
from-all x (y ∷ ys) h = (h 0 0 (omega arith), from-all x ys (λ j d lt. h (suc j) d (omega (arith, lt))))

to-all : (x : ℕ) (ys : List ℕ) → ((j : ℕ) (d : ℕ) → j < length ys → get_or ys j d ≤ x) → AllTo x ys
to-all x [] h = tt
to-all x (y ∷ ys) h = (h 0 0 (omega arith), to-all x ys (λ j d lt. h (suc j) d (omega (arith, lt))))

rises-ordered : (ys : List ℕ) → IsNonDecreasing ys → Rises ys
rises-ordered [] h = tt
rises-ordered (y ∷ ys) h = (
  from-all y ys (λ j d lt. h 0 (suc j) d (omega arith) (omega (arith, lt))),
  rises-ordered ys (λ i j d le lt. h (suc i) (suc j) d (omega (arith, le)) (omega (arith, lt))),
)

rises-compared : (ys : List ℕ) → IsSorted nat_cmp ys → Rises ys
rises-compared ys s = rises-ordered ys (IsNonDecreasingBy-from_sort (λ y. y) ys s)

pub sorted-unique : (xs ys : List ℕ) → IsPermutation xs ys → IsSorted nat_cmp ys → ys ≡ sorted xs
sorted-unique xs ys p s = sym (sorted-by xs ys p (rises-compared ys s))

-- a list that is split around a number rises once its parts do
rises-joined : (x : ℕ) (fs bs : List ℕ) → Rises fs → AllTo x fs → AllFrom x bs → Rises bs → Rises (fs ++ x ∷ bs)
rises-joined x [] bs r to from s = (from, s)
rises-joined x (f ∷ fs) bs r to from s = (go fs r.0, rises-joined x fs bs r.1 to.1 from s)
  where
    go : (gs : List ℕ) → AllFrom f gs → AllFrom f (gs ++ x ∷ bs)
    go [] h = (to.0, from-weaker f x bs to.0 from)
    go (g ∷ gs) h = (h.0, go gs h.1)

length-put_in : (x : ℕ) (ys : List ℕ) → length (put_in x ys) ≡ suc (length ys)
length-put_in x [] = refl
length-put_in x (y ∷ ys) = let later = length-put_in x ys in grind arith

pub length-sorted : (xs : List ℕ) → length (sorted xs) ≡ length xs
length-sorted [] = refl
length-sorted (x ∷ xs) = length-put_in x (sorted xs) ∙ ap suc (length-sorted xs)

get-seam : (fs : List ℕ) (x : ℕ) (bs : List ℕ) → slice_get (fs ++ x ∷ bs) (length fs) ≡ Some x
get-seam [] x bs = refl
get-seam (f ∷ fs) x bs = get-seam fs x bs

-- the number that a list is split around stands at its index once the list is sorted
pub sorted-at : (xs fs : List ℕ) (x : ℕ) (bs : List ℕ) → IsPermutation xs (fs ++ x ∷ bs) →
    IsSplitAround nat_cmp fs x bs → slice_get (sorted xs) (length fs) ≡ Some x
sorted-at xs fs x bs p s =
    let to : AllTo x fs = to-all x fs (λ j d lt. ge_from_not_lt x (get_or fs j d) (s.0 j d lt)) in
    let from : AllFrom x bs = from-all x bs (λ j d lt. ge_from_not_lt (get_or bs j d) x (s.1 j d lt)) in
    let joined : List ℕ = sorted fs ++ x ∷ sorted bs in
    let rises : Rises joined = rises-joined x (sorted fs) (sorted bs) (rises-sorted fs) (to-sorted x fs to)
    (from-sorted x bs from) (rises-sorted bs) in
    let same : sorted xs ≡ joined = one-sorted (sorted xs) joined (rises-sorted xs) rises (λ c.
    (let whole = tally-sorted c xs in let cut = tally-permuted c xs (fs ++ x ∷ bs) p in
    let parts = tally-append c fs (x ∷ bs) in let sorted_parts = tally-append c (sorted fs) (x ∷ sorted bs) in
    let front = tally-sorted c fs in let back = tally-sorted c bs in
    omega (arith, whole, cut, parts, sorted_parts, front, back))) in
    let long : length (sorted fs) ≡ length fs = length-sorted fs in
    ap (λ zs. slice_get zs (length fs)) same ∙ ap (λ n. slice_get joined n) (sym long)
    ∙ get-seam (sorted fs) x (sorted bs)

-- a list but no number
pub all_but-none : (xs : List ℕ) → all_but None xs ≡ xs
all_but-none [] = refl
all_but-none (x ∷ xs) = ap (λ ys. x ∷ ys) (all_but-none xs)
