-- Lists by rising number: what two places say of one another, and what has a number.
use Rattle.std.proofs.Common.{◌≡◌, ◌≢◌, ℕ, zero, suc, ◌+◌, ◌-◌, ◌<◌, ◌≤◌, List, [], ◌∷◌, length, get_or, Option, Some}
use Rattle.std.proofs.Common.{None}
use Rattle.std.proofs.Common.{refl, sym, ap, ◌∙◌, arith}
use Rattle.std.specs.Prelude.{slice_get}
use Rattle.std.proofs.lemmas.Bool.Decides.{nat_tests}
use Rattle.network.specs.NumberedMessages.{IsRising, at_number, number_at, still_there, given}

module _ {X : Type 0} where
  -- an element's number is the number at its index
  pub number_at-get_or : (xs : List (ℕ × X)) (k : ℕ) (d : ℕ × X) → k < length xs → (get_or xs k d).0 ≡ number_at xs k
  number_at-get_or [] k d h = absurd (omega arith)
  number_at-get_or (x ∷ xs) zero d h = refl
  number_at-get_or (x ∷ xs) (suc k) d h = number_at-get_or xs k d (omega arith)

  -- the bounds hold of each number
  pub number_at-within : (xs : List (ℕ × X)) (low high k : ℕ) → IsRising low xs high → k < length xs →
      (low ≤ number_at xs k) × (number_at xs k < high)
  number_at-within [] low high k rising h = absurd (omega arith)
  number_at-within (x ∷ xs) low high zero rising h =
      (rising.0, let rest = ends xs (x.0 + 1) rising.1 in omega (arith, rest))
    where
      ends : (xs : List (ℕ × X)) (low : ℕ) → IsRising low xs high → low ≤ high
      ends [] low rising = rising
      ends (y ∷ ys) low rising = let rest = ends ys (y.0 + 1) rising.1 in omega (arith, rising.0, rest)
  number_at-within (x ∷ xs) low high (suc k) rising h = let rest =
      number_at-within xs (x.0 + 1) high k rising.1 (omega arith) in (omega (arith, rest.0, rising.0), rest.1)

  -- of two elements the later one has the greater number
  pub number_at-rises : (xs : List (ℕ × X)) (low high i j : ℕ) → IsRising low xs high → i < j → j < length xs →
      number_at xs i < number_at xs j
  number_at-rises (x ∷ xs) low high zero (suc j) rising before h = let rest =
      number_at-within xs (x.0 + 1) high j rising.1 (omega arith) in omega (arith, rest.0)
  number_at-rises (x ∷ xs) low high (suc i) (suc j) rising before h =
      number_at-rises xs (x.0 + 1) high i j rising.1 (omega arith) (omega arith)
  number_at-rises _ low high i _ rising before h = absurd (omega arith)

module _ {X : Type 0} where
  -- the thing in front is passed over where its number is another
  pub at_number-given_other : (n m : ℕ) (o : Option X) (xs : List (ℕ × X)) → (m ≡ n → ⊥) →
      at_number n (given m o xs) ≡ at_number n xs
  at_number-given_other n m None xs other = refl
  at_number-given_other n m (Some x) xs other = grind (arith, nat_tests, other)

  -- the thing in front is found where no other has its number
  pub at_number-given_same : (n m : ℕ) (o : Option X) (xs : List (ℕ × X)) → m ≡ n → at_number n xs ≡ None →
      at_number n (given m o xs) ≡ o
  at_number-given_same n m None xs same none = none
  at_number-given_same n m (Some x) xs same none = grind (arith, nat_tests, same)

  -- what no element has as its number is not found
  pub at_number-none : (n : ℕ) (xs : List (ℕ × Option X)) → ((k : ℕ) → k < length xs → number_at xs k ≡ n → ⊥) →
      at_number n (still_there xs) ≡ None
  at_number-none n [] others = refl
  at_number-none n (x ∷ xs) others = at_number-given_other n x.0 x.1 (still_there xs) (others 0 (omega arith))
      ∙ at_number-none n xs (λ k h. others (suc k) (omega arith))

  -- numbers from `low` on are none below it
  pub at_number-below : (n low high : ℕ) (xs : List (ℕ × Option X)) → IsRising low xs high → n < low →
      at_number n (still_there xs) ≡ None
  at_number-below n low high xs rising below =
      at_number-none n xs (λ k h same. let ends = number_at-within xs low high k rising h in omega (arith, ends.0))

  -- the element with the number has what is found
  pub slice_get-at_number : (n low high k : ℕ) (xs : List (ℕ × Option X)) → IsRising low xs high → k < length xs →
      number_at xs k ≡ n → slice_get xs k ≡ Some (n, at_number n (still_there xs))
  slice_get-at_number n low high k [] rising h same = absurd (omega arith)
  slice_get-at_number n low high zero (x ∷ xs) rising h same =
      let rest = at_number-below n (x.0 + 1) high xs rising.1 (omega arith) in
      let here = at_number-given_same n x.0 x.1 (still_there xs) same rest in
      rw (here, ← same) refl
  slice_get-at_number n low high (suc k) (x ∷ xs) rising h same =
      let later = number_at-within xs (x.0 + 1) high k rising.1 (omega arith) in
      let skip = at_number-given_other n x.0 x.1 (still_there xs) (λ e. omega (arith, later.0)) in
      slice_get-at_number n (x.0 + 1) high k xs rising.1 (omega arith) same ∙ ap (λ o. Some (n, o)) (sym skip)

module _ {X : Type 0} where
  -- where the number in the middle is below `n`, so are those before it
  pub passes_middle : (xs : List (ℕ × X)) (low high middle n : ℕ) (x : ℕ × X) → IsRising low xs high →
      middle < length xs → (get_or xs middle x).0 < n → (k : ℕ) → k < middle + 1 → number_at xs k < n
  passes_middle xs low high middle n x rising h below k before =
      let here = number_at-get_or xs middle x h in let rise = number_at-rises xs low high k middle rising in
      let same : k ≡ middle → number_at xs k ≡ number_at xs middle = ap (number_at xs) in grind arith

  -- where the number in the middle is not below `n`, nor are those behind it
  pub stops_middle : (xs : List (ℕ × X)) (low high middle n : ℕ) (x : ℕ × X) → IsRising low xs high →
      middle < length xs → n ≤ (get_or xs middle x).0 → (k : ℕ) → middle ≤ k → k < length xs → n ≤ number_at xs k
  stops_middle xs low high middle n x rising h above k behind within =
      let here = number_at-get_or xs middle x h in let rise = number_at-rises xs low high middle k rising in
      let same : middle ≡ k → number_at xs middle ≡ number_at xs k = ap (number_at xs) in grind arith

module _ {X : Type 0} where
  -- where all before `at` are below `n`, none from `at` on are, and the one at `at` isn't `n`, nothing has the number
  pub at_number-absent : (n high at : ℕ) (xs : List (ℕ × Option X)) → IsRising 0 xs high →
      ((k : ℕ) → k < at → number_at xs k < n) → ((k : ℕ) → at ≤ k → k < length xs → n ≤ number_at xs k) →
      (at < length xs → number_at xs at ≡ n → ⊥) → at_number n (still_there xs) ≡ None
  at_number-absent n high at xs rising before after other = at_number-none n xs (λ k within same.
      let less = before k in let more = after at in let rise = number_at-rises xs 0 high at k rising in
      let ne : k ≢ at = λ e. other (rw e at within) (rw e at same) in grind arith)

module _ {X : Type 0} where
  -- the number at an index is that of the element there
  pub number_at-slice_get : (xs : List (ℕ × X)) (k n : ℕ) (x : X) → slice_get xs k ≡ Some (n, x) → number_at xs k ≡ n
  number_at-slice_get [] k n x here = cc
  number_at-slice_get (y ∷ ys) zero n x here = let same : y ≡ (n, x) = cc in ap (λ (z : ℕ × X). z.0) same
  number_at-slice_get (y ∷ ys) (suc k) n x here = number_at-slice_get ys k n x here

  -- where the last number is below `n`, nothing has that number
  pub at_number-above : (n high : ℕ) (x : ℕ × Option X) (xs : List (ℕ × Option X)) → IsRising 0 xs high →
      0 < length xs → (get_or xs (length xs - 1) x).0 < n → at_number n (still_there xs) ≡ None
  at_number-above n high x xs rising some above = at_number-none n xs (λ k within same.
      let less = passes_middle xs 0 high (length xs - 1) n x rising (omega (arith, some)) above k
      (omega (arith, within)) in omega (arith, less, same))
