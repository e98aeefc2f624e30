-- What stands at places of lists, and places as a row and a column of so many columns.
use Rattle.std.proofs.Common.{◌≡◌, ◌≢◌, ℕ, zero, suc, ◌+◌, ◌*◌, ◌/◌, ◌%◌, ◌<◌, List, [], ◌∷◌, ◌++◌, length, ◌-◌, ◌≤◌}
use Rattle.std.proofs.Common.{Some, None, get_or, ⊎_elim, sym, refl, ap, ◌∙◌, arith}
use Rattle.std.specs.Prelude.{slice_get}
use Rattle.std.proofs.lemmas.Bool.{cases_lt}
use Rattle.std.proofs.lemmas.Nat.{same_from_place, div-add-mod', mod-mul-add, mod_below}
use Rattle.std.proofs.lemmas.Option.{same_Some, slice_get_cases, slice_get_within}
use Rattle.round_robin.specs.Dealing.{hand_of}

-- one place has one row and one column
pub same_place : (n k h q r : ℕ) → h < n → r < n → n * k + h ≡ n * q + r → (k ≡ q) × (h ≡ r)
same_place n k h q r hn rn e = same_from_place k h q r n hn rn (omega arith)

-- each place has a row and a column
pub split_place : (n m : ℕ) → m ≡ n * (m / n) + m % n
split_place n m = let e = div-add-mod' m n in omega arith

-- one hand is of one turn
pub same_hand : (first n h r : ℕ) → h < n → r < n → hand_of first n h ≡ hand_of first n r → h ≡ r
same_hand first n h r hn rn e =
    let a = split_place n (first + h) in
    let b = split_place n (first + r) in
    (same_place n ((first + r) / n) h ((first + h) / n) r hn rn (omega arith)).1

-- each hand has its turn
pub turn_of : (first n i : ℕ) → i < n → (h : ℕ) × (h < n) × (hand_of first n h ≡ i)
turn_of first n i lt =
    let q : ℕ = first / n in
    let f : ℕ = first % n in
    let whole : first ≡ n * q + f = split_place n first in
    let below : f < n = mod_below first n (omega arith) in
    ⊎_elim
    (λ (up : i < f).
    let h : ℕ = i + n - f in
    let sum : first + h ≡ (q + 1) * n + i = omega arith in
    (h, omega arith, ap (λ z. z % n) sum ∙ mod-mul-add (q + 1) n i lt))
    (λ (down : f ≤ i).
    let h : ℕ = i - f in
    let sum : first + h ≡ q * n + i = omega arith in
    (h, omega arith, ap (λ z. z % n) sum ∙ mod-mul-add q n i lt))
    (cases_lt i f)

-- a lower row is the lower place of a column
pub lower_place : (n k q r : ℕ) → 0 < n → k < q → n * k + r < n * q + r
lower_place n k q r some lt = grind arith

-- a lower place of a column is the lower row
pub lower_row : (n k q r : ℕ) → n * k + r < n * q + r → k < q
lower_row n k q r lt = grind arith

module _ {A : Type 0} where
  pub snoc_here : (xs : List A) (x : A) (i : ℕ) → i ≡ length xs → slice_get (xs ++ x ∷ []) i ≡ Some x
  snoc_here [] x zero e = refl
  snoc_here [] x (suc i) e = absurd (omega arith)
  snoc_here (y ∷ ys) x zero e = absurd (omega arith)
  snoc_here (y ∷ ys) x (suc i) e = snoc_here ys x i (omega arith)

  pub snoc_there : (xs : List A) (x : A) (i : ℕ) → i ≢ length xs → slice_get (xs ++ x ∷ []) i ≡ slice_get xs i
  snoc_there [] x zero ne = absurd (ne refl)
  snoc_there [] x (suc i) ne = refl
  snoc_there (y ∷ ys) x zero ne = refl
  snoc_there (y ∷ ys) x (suc i) ne = snoc_there ys x i (λ e. ne (ap suc e))

  -- a hand that has an item is there
  pub hand_there : (lists : List (List A)) (i k : ℕ) (x : A) → slice_get (get_or lists i []) k ≡ Some x →
      i < length lists
  hand_there [] i k x e = cc
  hand_there (l ∷ lists) zero k x e = omega arith
  hand_there (l ∷ lists) (suc i) k x e = let lt = hand_there lists i k x e in omega arith

  -- lists with the same at each place
  pub same_by_get : (xs ys : List A) → ((i : ℕ) → slice_get xs i ≡ slice_get ys i) → xs ≡ ys
  same_by_get [] [] e = refl
  same_by_get [] (y ∷ ys) e = let z = e 0 in cc
  same_by_get (x ∷ xs) [] e = let z = e 0 in cc
  same_by_get (x ∷ xs) (y ∷ ys) e =
      let head : x ≡ y = same_Some x y (e 0) in
      let tail : xs ≡ ys = same_by_get xs ys (λ i. e (suc i)) in
      cc

  -- where two places hold the same, one is within its list exactly if the other is
  pub within_both : (xs ys : List A) (i j : ℕ) → slice_get xs i ≡ slice_get ys j → i < length xs → j < length ys
  within_both xs ys i j e lt =
      ⊎_elim
      (λ t. slice_get_within ys j t.0 (sym e ∙ t.2))
      (λ t. absurd (omega (arith, t.0)))
      (slice_get_cases xs i).1

  -- nothing stands in a list with no item
  pub nothing_at : (xs : List A) (i : ℕ) → (i < length xs → ⊥) → slice_get xs i ≡ None
  nothing_at [] i out = refl
  nothing_at (x ∷ xs) zero out = absurd (out (omega arith))
  nothing_at (x ∷ xs) (suc i) out = nothing_at xs i (λ lt. out (omega arith))
