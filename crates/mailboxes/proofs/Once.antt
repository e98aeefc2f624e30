-- Each number of a list once, where it comes first.
use Rattle.std.proofs.Common.{◌≡◌, ℕ, suc, zero, ◌==◌, Bool, true, false, cond, not, List, [], ◌∷◌, ◌++◌, Some}
use Rattle.std.proofs.Common.{refl, ap, ◌∙◌, arith, append-nil, eqb-true, eq-eqb, ◌≢◌, ◌<◌, ◌+◌, ◌*◌}
use Rattle.std.proofs.lemmas.Bool.Decides.{nat_tests}
use Rattle.std.proofs.lemmas.Grind.{common_steps}
use Rattle.std.specs.Prelude.{All, AllPairs, filter, flat_map, slice_get, slice_index_or}
use Rattle.std.specs.List.{list_any}
use Rattle.std.proofs.lemmas.List.Elements.{All-cons, All-nil, filter-append, filter_passes}
use Rattle.std.proofs.lemmas.List.Kept.{AllPairs-cons, AllPairs-filter}
use Rattle.seat_rule.specs.Plays.{ones}
use Rattle.seat_views.proofs.Lemmas.{some_is}
use Rattle.mailboxes.specs.Places.{once}

one_more : (b : Bool) (x l : ℕ) (ys : List ℕ) → (k : ℕ) × (slice_get ys k ≡ Some l) →
    (k : ℕ) × (slice_get (cond b (x ∷ ys) ys) k ≡ Some l)
one_more true x l ys at = (suc at.0, at.1)
one_more false x l ys at = at

in_filter : (test : ℕ → Bool) (xs : List ℕ) (i l : ℕ) → slice_get xs i ≡ Some l → test l ≡ true →
    (k : ℕ) × (slice_get (filter test xs) k ≡ Some l)
in_filter test [] i l is passes = let none = is in cc
in_filter test (x ∷ xs) zero l is passes = let q0 = some_is is in grind (arith, nat_tests, q0)
in_filter test (x ∷ xs) (suc i) l is passes =
    one_more (test x) x l (filter test xs) (in_filter test xs i l is passes)

abbrev but : ℕ → List ℕ → List ℕ
but x ys = filter (λ y. not (x == y)) ys

-- what is in the list is there
pub in_once : (xs : List ℕ) (i l : ℕ) → slice_get xs i ≡ Some l → (k : ℕ) × (slice_get (once xs) k ≡ Some l)
in_once [] i l is = let none = is in cc
in_once (x ∷ xs) zero l is = (0, is)
in_once (x ∷ xs) (suc i) l is = behind (in_once xs i l is) (x == l) refl
  where
    behind : (k : ℕ) × (slice_get (once xs) k ≡ Some l) → (b : Bool) → (x == l) ≡ b →
        (k : ℕ) × (slice_get (once (x ∷ xs)) k ≡ Some l)
    behind later true same = (0, ap (λ n. Some n) (eqb-true x l same))
    behind later false other =
        let there = in_filter (λ y. not (x == y)) (once xs) later.0 l later.1 (ap not other) in
        (suc there.0, there.1)

-- one more at the end, by whether its test passes
at_end : (x l : ℕ) (ys : List ℕ) (b : Bool) → (x == l) ≡ b → but x (ys ++ l ∷ []) ≡ but x ys ++ cond (not b) (l ∷ []) []
at_end x l ys b is =
    filter-append (λ y. not (x == y)) ys (l ∷ []) ∙ ap (λ (c : Bool). but x ys ++ cond (not c) (l ∷ []) []) is

-- a number that isn't there comes last
pub once_more : (xs : List ℕ) (l : ℕ) → list_any (λ y. y == l) xs ≡ false → once (xs ++ l ∷ []) ≡ once xs ++ l ∷ []
once_more [] l h = refl
once_more (x ∷ xs) l h = let q0 = once_more xs l in grind (arith, nat_tests, common_steps, q0, at_end)

-- one that is there already adds nothing
pub once_same : (xs : List ℕ) (l : ℕ) → list_any (λ y. y == l) xs ≡ true → once (xs ++ l ∷ []) ≡ once xs
once_same [] l h = let e = h in cc
once_same (x ∷ xs) l h =
    let q0 = once_same xs l in grind (arith, nat_tests, common_steps, q0, append-nil, at_end, once_more)

-- none comes twice
differ : (xs : List ℕ) → AllPairs (λ x y. x ≢ y) (once xs)
differ [] = λ i j d less below. absurd (omega (arith, below))
differ (x ∷ xs) =
    AllPairs-cons (λ (a b : ℕ). a ≢ b) x (but x (once xs))
    (λ k d below same. let passes = filter_passes (λ y. not (x == y)) (once xs) k d below in
    let equal = ap not (eq-eqb x (slice_index_or (but x (once xs)) k d) same) in cc)
    (AllPairs-filter (λ (a b : ℕ). a ≢ b) (λ y. not (x == y)) (once xs) (differ xs))

abbrev Apart : ℕ × ℕ → ℕ × ℕ → Type 0
Apart a b = a.0 ≢ b.0

other_link : (x l s t : ℕ) → s < 4 → t < 4 → x ≢ l → 4 * x + s ≢ 4 * l + t
other_link x l s t low high other same = other (omega (arith, low, high, same))

other_place : (x s t : ℕ) → s < t → 4 * x + s ≢ 4 * x + t
other_place x s t less same = absurd (omega (arith, less, same))

abbrev look : ℕ → ℕ → ℕ × ℕ
look link s = (4 * link + s, 1)

abbrev looks : List ℕ → List (ℕ × ℕ)
looks ls = flat_map (λ l. ones l 4) ls

-- a slot of one link is none of the others'
far : (x s : ℕ) (ls : List ℕ) → s < 4 → All (λ l. x ≢ l) ls → All (Apart (look x s)) (looks ls)
far x s [] lt h = All-nil (Apart (look x s))
far x s (l ∷ ls) lt h =
    let other : x ≢ l = h 0 l (omega arith) in
    let more = far x s ls lt (λ k d below. h (suc k) d (omega (arith, below))) in
    let P = Apart (look x s) in
    All-cons P (look l 0) (look l 1 ∷ look l 2 ∷ look l 3 ∷ looks ls) (other_link x l s 0 lt (omega arith) other)
    (All-cons P (look l 1) (look l 2 ∷ look l 3 ∷ looks ls) (other_link x l s 1 lt (omega arith) other)
    (All-cons P (look l 2) (look l 3 ∷ looks ls) (other_link x l s 2 lt (omega arith) other)
    (All-cons P (look l 3) (looks ls) (other_link x l s 3 lt (omega arith) other) more)))

spread : (ls : List ℕ) → AllPairs (λ x y. x ≢ y) ls → AllPairs Apart (looks ls)
spread [] h = λ i j d less below. absurd (omega (arith, below))
spread (x ∷ ls) h =
    let others : All (λ l. x ≢ l) ls = λ k d below. h 0 (suc k) d (omega arith) (omega (arith, below)) in
    let rest = spread ls (λ i j d less below. h (suc i) (suc j) d (omega (arith, less)) (omega (arith, below))) in
    let after = looks ls in
    let second = All-cons (Apart (look x 2)) (look x 3) after (other_place x 2 3 (omega arith))
    (far x 2 ls (omega arith) others) in
    let first = All-cons (Apart (look x 1)) (look x 2) (look x 3 ∷ after) (other_place x 1 2 (omega arith))
    (All-cons (Apart (look x 1)) (look x 3) after (other_place x 1 3 (omega arith))
    (far x 1 ls (omega arith) others)) in
    let zeroth = All-cons (Apart (look x 0)) (look x 1) (look x 2 ∷ look x 3 ∷ after) (other_place x 0 1 (omega arith))
    (All-cons (Apart (look x 0)) (look x 2) (look x 3 ∷ after) (other_place x 0 2 (omega arith))
    (All-cons (Apart (look x 0)) (look x 3) after (other_place x 0 3 (omega arith))
    (far x 0 ls (omega arith) others))) in
    AllPairs-cons Apart (look x 0) (look x 1 ∷ look x 2 ∷ look x 3 ∷ after) zeroth
    (AllPairs-cons Apart (look x 1) (look x 2 ∷ look x 3 ∷ after) first
    (AllPairs-cons Apart (look x 2) (look x 3 ∷ after) second
    (AllPairs-cons Apart (look x 3) after (far x 3 ls (omega arith) others) rest)))

pub looks_differ : (xs : List ℕ) → AllPairs Apart (looks (once xs))
looks_differ xs = spread (once xs) (differ xs)
