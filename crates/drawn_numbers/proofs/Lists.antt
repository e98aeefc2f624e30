-- Lists of numbers: one more at the end, and how often each stands in them.
use Rattle.std.proofs.Common.{◌≡◌, ℕ, zero, suc, ◌+◌, ◌*◌, ◌≤◌, cond, eqb, refl, List, [], ◌∷◌, ◌++◌, length, arith}
use Rattle.std.proofs.lemmas.Bool.Decides.{nat_tests}
use Rattle.seat_views.specs.Seated.{over}
use Rattle.drawn_numbers.specs.Drawn.{times, RisesFrom, AllBelow, once_below}

pub times_snoc : (x : ℕ) (ys : List ℕ) (y : ℕ) → times x (ys ++ y ∷ []) ≡ times x ys + cond (eqb y x) 1 0
times_snoc x [] y = omega arith
times_snoc x (z ∷ zs) y = let a = times_snoc x zs y in omega arith

pub rises_snoc : (k : ℕ) (xs : List ℕ) (n : ℕ) → k ≤ n → RisesFrom k xs → AllBelow n xs → RisesFrom k (xs ++ n ∷ [])
rises_snoc k [] n l r b = (l, tt)
rises_snoc k (x ∷ xs) n l r b = (r.0, rises_snoc (x + 1) xs n (let h = b.0 in omega arith) r.1 b.1)

pub below_more : (n : ℕ) (xs : List ℕ) → AllBelow n xs → AllBelow (n + 1) xs
below_more n [] b = tt
below_more n (x ∷ xs) b = (let h = b.0 in omega arith, below_more n xs b.1)

pub below_snoc : (n : ℕ) (xs : List ℕ) → AllBelow n xs → AllBelow (n + 1) (xs ++ n ∷ [])
below_snoc n [] b = (omega arith, tt)
below_snoc n (x ∷ xs) b = (let h = b.0 in omega arith, below_snoc n xs b.1)

pub one_more_below : (x n : ℕ) → once_below x (n + 1) ≡ once_below x n + cond (eqb n x) 1 0
one_more_below x n = grind (arith, nat_tests)

pub none_below : (x : ℕ) → once_below x 0 ≡ 0
none_below x = grind (arith, nat_tests)

pub few_in_all : (m : ℕ) (f : ℕ → List ℕ) → ((j : ℕ) → length (f j) ≤ 4294967296) →
    over m (λ j. length (f j)) ≤ m * 4294967296
few_in_all zero f b = omega arith
few_in_all (suc m) f b = let a = few_in_all m f b in let c = b m in omega arith

pub zeros : (m : ℕ) → over m (λ j. 0) ≡ 0
zeros zero = refl
zeros (suc m) = let a = zeros m in omega arith
