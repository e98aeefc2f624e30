-- What sending and taking do to the slots, and to what is still there.
use Rattle.std.proofs.Common.{◌≡◌, ℕ, zero, suc, ◌+◌, ◌<◌, ◌≤◌, ◌++◌, List, [], ◌∷◌, length, filter, Bool}
use Rattle.std.proofs.Common.{is_some, Option, Some, None, refl, sym, ap, ◌∙◌}
use Rattle.std.proofs.Common.{arith, length-append}
use Rattle.std.proofs.Common.{get_or, map, option_map}
use Rattle.std.specs.List.{remove}
use Rattle.std.specs.Prelude.{slice_get, slice_set, IsTrue}
use Rattle.std.proofs.lemmas.Bool.Decides.{nat_tests}
use Rattle.std.proofs.lemmas.Option.{slice_get_within}
use Rattle.network.specs.declared.message.Message.{Message}
use Rattle.network.specs.NumberedMessages.{IsRising, at_number, without_number, still_there, given}
use Rattle.network.specs.Routes.{has_endpoints, AllHaveEndpoints}
use Rattle.network.proofs.RisingLists.{at_number-below, number_at-within, number_at-slice_get}

module _ {X : Type 0} where
  pub given-append : (n : ℕ) (o : Option X) (xs ys : List (ℕ × X)) → given n o (xs ++ ys) ≡ given n o xs ++ ys
  given-append n None xs ys = refl
  given-append n (Some x) xs ys = refl

  -- what is sent last is there last
  pub still_there-append : (n : ℕ) (x : X) (xs : List (ℕ × Option X)) → still_there (xs ++ (n, Some x) ∷ []) ≡
      still_there xs ++ (n, x) ∷ []
  still_there-append n x [] = refl
  still_there-append n x (y ∷ ys) =
      ap (given y.0 y.1) (still_there-append n x ys) ∙ given-append y.0 y.1 (still_there ys) ((n, x) ∷ [])

  -- the next number makes the numbers go on rising
  pub IsRising-append : (low high : ℕ) (x : X) (xs : List (ℕ × X)) → IsRising low xs high →
      IsRising low (xs ++ (high, x) ∷ []) (high + 1)
  IsRising-append low high x [] rising = (rising, omega arith)
  IsRising-append low high x (y ∷ ys) rising = (rising.0, IsRising-append (y.0 + 1) high x ys rising.1)

  pub IsRising-higher : (low high top : ℕ) (xs : List (ℕ × X)) → IsRising low xs high → high ≤ top →
      IsRising low xs top
  IsRising-higher low high top [] rising h = omega arith
  IsRising-higher low high top (y ∷ ys) rising h = (rising.0, IsRising-higher (y.0 + 1) high top ys rising.1 h)

  pub IsRising-lower : (low least high : ℕ) (xs : List (ℕ × X)) → IsRising low xs high → least ≤ low →
      IsRising least xs high
  IsRising-lower low least high [] rising h = omega arith
  IsRising-lower low least high (y ∷ ys) rising h = (omega (arith, rising.0), rising.1)

  IsRising-given : (low high n : ℕ) (o : Option X) (xs : List (ℕ × X)) → low ≤ n → IsRising (n + 1) xs high →
      IsRising low (given n o xs) high
  IsRising-given low high n None xs h rising = IsRising-lower (n + 1) low high xs rising (omega arith)
  IsRising-given low high n (Some x) xs h rising = (h, rising)

  -- the numbers of what is still there rise as those of the slots do
  pub IsRising-still_there : (low high : ℕ) (xs : List (ℕ × Option X)) → IsRising low xs high →
      IsRising low (still_there xs) high
  IsRising-still_there low high [] rising = rising
  IsRising-still_there low high (y ∷ ys) rising =
      IsRising-given low high y.0 y.1 (still_there ys) rising.0 (IsRising-still_there (y.0 + 1) high ys rising.1)

  -- what stands beside the numbers doesn't matter to their rising
  pub IsRising-set : (low high k n : ℕ) (o x : X) (xs : List (ℕ × X)) → slice_get xs k ≡ Some (n, o) →
      IsRising low xs high → IsRising low (slice_set xs k (n, x)) high
  IsRising-set low high k n o x [] here rising = cc
  IsRising-set low high zero n o x (y ∷ ys) here rising = let same : y ≡ (n, o) = cc in let number =
      ap (λ (z : ℕ × X). z.0) same in (omega (arith, rising.0, number), rw (← number) rising.1)
  IsRising-set low high (suc k) n o x (y ∷ ys) here rising =
      (rising.0, IsRising-set (y.0 + 1) high k n o x ys here rising.1)

  -- without what isn't there, a list is as it was
  pub without_number-none : (n : ℕ) (xs : List (ℕ × X)) → at_number n xs ≡ None → without_number n xs ≡ xs
  without_number-none n [] none = refl
  without_number-none n (y ∷ ys) none = grind (arith, nat_tests, without_number-none n ys)

  -- without what is there, it has one less
  pub length-without_number : (n : ℕ) (x : X) (xs : List (ℕ × X)) → at_number n xs ≡ Some x →
      length (without_number n xs) + 1 ≡ length xs
  length-without_number n x [] some = cc
  length-without_number n x (y ∷ ys) some = grind (arith, nat_tests, length-without_number n x ys)

  without_number-given_same : (n m : ℕ) (o : Option X) (xs : List (ℕ × X)) → m ≡ n → at_number n xs ≡ None →
      without_number n (given m o xs) ≡ xs
  without_number-given_same n m o xs same none = let rest = without_number-none n xs none in grind arith

  without_number-given_other : (n m : ℕ) (o : Option X) (xs : List (ℕ × X)) → (m ≡ n → ⊥) →
      without_number n (given m o xs) ≡ given m o (without_number n xs)
  without_number-given_other n m None xs other = refl
  without_number-given_other n m (Some x) xs other = grind (arith, nat_tests, other)

  without_empty : (n : ℕ) (o : Option X) (xs : List (ℕ × Option X)) → still_there (filter (λ x. is_some x.1) xs) ≡
      still_there xs → still_there (filter (λ x. is_some x.1) ((n, o) ∷ xs)) ≡ given n o (still_there xs)
  without_empty n None xs same = same
  without_empty n (Some x) xs same = ap (given n (Some x)) same

  -- an emptied slot takes what has its number away
  pub still_there-set : (n low high k : ℕ) (o : Option X) (xs : List (ℕ × Option X)) → slice_get xs k ≡ Some (n, o) →
      IsRising low xs high → still_there (slice_set xs k (n, None)) ≡ without_number n (still_there xs)
  still_there-set n low high k o [] here rising = cc
  still_there-set n low high zero o (y ∷ ys) here rising =
      let same : y ≡ (n, o) = cc in
      let number = ap (λ (z : ℕ × Option X). z.0) same in
      let others = at_number-below n (y.0 + 1) high ys rising.1 (omega (arith, number)) in
      sym (without_number-given_same n y.0 y.1 (still_there ys) number others)
  still_there-set n low high (suc k) o (y ∷ ys) here rising =
      let rest = still_there-set n (y.0 + 1) high k o ys here rising.1 in
      let above = number_at-within ys (y.0 + 1) high k rising.1 (slice_get_within ys k (n, o) here) in
      let is = number_at-slice_get ys k n o here in
      ap (given y.0 y.1) rest ∙ sym (without_number-given_other n y.0 y.1 (still_there ys)
      (λ e. omega (arith, above.0, is)))

  -- another is sent after one is taken: what is there then, which is as many as before
  pub still_there-answered : (n next : ℕ) (x : X) (xs left : List (ℕ × Option X)) →
      still_there left ≡ without_number n (still_there xs) →
      still_there (left ++ (next, Some x) ∷ []) ≡ without_number n (still_there xs) ++ (next, x) ∷ []
  still_there-answered n next x xs left taken =
      still_there-append next x left ∙ ap (λ ys. ys ++ (next, x) ∷ []) taken

  pub length-answered : (n next : ℕ) (x : X) (xs left : List (ℕ × Option X)) → at_number n (still_there xs) ≡ Some x →
      still_there left ≡ without_number n (still_there xs) →
      length (still_there (left ++ (next, Some x) ∷ [])) ≡ length (still_there xs)
  length-answered n next x xs left some taken =
      let fewer = length-without_number n x (still_there xs) some in
      let more = length-append (without_number n (still_there xs)) ((next, x) ∷ []) in
      ap length (still_there-answered n next x xs left taken) ∙ omega (arith, fewer, more)

  -- slots that are empty leave no trace
  pub still_there-filter : (xs : List (ℕ × Option X)) → still_there (filter (λ x. is_some x.1) xs) ≡ still_there xs
  still_there-filter [] = refl
  still_there-filter (x ∷ xs) = without_empty x.0 x.1 xs (still_there-filter xs)

  -- as many slots have their message as messages are still there
  pub length-filter_full : (xs : List (ℕ × Option X)) → length (filter (λ x. is_some x.1) xs) ≡
      length (still_there xs)
  length-filter_full [] = refl
  length-filter_full ((n, None) ∷ xs) = length-filter_full xs
  length-filter_full ((n, Some x) ∷ xs) = ap suc (length-filter_full xs)

  pub IsRising-filter : (low high : ℕ) (test : ℕ × X → Bool) (xs : List (ℕ × X)) → IsRising low xs high →
      IsRising low (filter test xs) high
  IsRising-filter low high test [] rising = rising
  IsRising-filter low high test (x ∷ xs) rising =
      let rest = IsRising-filter (x.0 + 1) high test xs rising.1 in let least = rising.0 in
      let lower = IsRising-lower (x.0 + 1) low high (filter test xs) rest (omega (arith, rising.0)) in grind arith

  -- an empty slot leaves no trace
  pub still_there-remove : (k : ℕ) (x : ℕ × Option X) (xs : List (ℕ × Option X)) → k < length xs →
      (get_or xs k x).1 ≡ None → still_there (remove xs k) ≡ still_there xs
  still_there-remove k x [] within none = absurd (omega arith)
  still_there-remove zero x (y ∷ ys) within none = sym (ap (λ o. given y.0 o (still_there ys)) none)
  still_there-remove (suc k) x (y ∷ ys) within none =
      ap (given y.0 y.1) (still_there-remove k x ys (omega arith) none)

  pub IsRising-remove : (low high k : ℕ) (xs : List (ℕ × X)) → k < length xs → IsRising low xs high →
      IsRising low (remove xs k) high
  IsRising-remove low high k [] within rising = absurd (omega arith)
  IsRising-remove low high zero (y ∷ ys) within rising =
      IsRising-lower (y.0 + 1) low high ys rising.1 (omega (arith, rising.0))
  IsRising-remove low high (suc k) (y ∷ ys) within rising =
      (rising.0, IsRising-remove (y.0 + 1) high k ys (omega arith) rising.1)

  -- no more are there than there are slots
  still_there-most : (xs : List (ℕ × Option X)) → length (still_there xs) ≤ length xs
  still_there-most [] = omega arith
  still_there-most ((n, None) ∷ xs) = let rest = still_there-most xs in omega (arith, rest)
  still_there-most ((n, Some x) ∷ xs) = let rest = still_there-most xs in omega (arith, rest)

  -- where no slot is empty, what is there stands where its slot does
  pub slice_get-all_there : (k : ℕ) (xs : List (ℕ × Option X)) → length (still_there xs) ≡ length xs →
      slice_get (map (λ x. x.0) (still_there xs)) k ≡ option_map (λ x. x.0) (slice_get xs k)
  slice_get-all_there k ((n, None) ∷ xs) full = let most = still_there-most xs in absurd (omega (arith, full, most))
  slice_get-all_there (suc k) ((n, Some x) ∷ xs) full = slice_get-all_there k xs (omega (arith, full))
  slice_get-all_there _ _ full = refl

-- what is found has the endpoints of its kind
pub AllHaveEndpoints-at_number : (cores banks n : ℕ) (m : Message) (xs : List (ℕ × Message)) → AllHaveEndpoints cores
    banks xs → at_number n xs ≡ Some m → IsTrue (has_endpoints cores banks m)
AllHaveEndpoints-at_number cores banks n m [] all some = cc
AllHaveEndpoints-at_number cores banks n m (x ∷ xs) all some =
    let rest = AllHaveEndpoints-at_number cores banks n m xs all.1 in let here = all.0 in grind arith

pub AllHaveEndpoints-append : (cores banks n : ℕ) (m : Message) (xs : List (ℕ × Message)) → AllHaveEndpoints cores
    banks xs → IsTrue (has_endpoints cores banks m) → AllHaveEndpoints cores banks (xs ++ (n, m) ∷ [])
AllHaveEndpoints-append cores banks n m [] all here = (here, tt)
AllHaveEndpoints-append cores banks n m (x ∷ xs) all here =
    (all.0, AllHaveEndpoints-append cores banks n m xs all.1 here)

pub AllHaveEndpoints-without_number : (cores banks n : ℕ) (xs : List (ℕ × Message)) → AllHaveEndpoints cores banks
    xs → AllHaveEndpoints cores banks (without_number n xs)
AllHaveEndpoints-without_number cores banks n [] all = tt
AllHaveEndpoints-without_number cores banks n (x ∷ xs) all =
    let rest = AllHaveEndpoints-without_number cores banks n xs all.1 in grind arith
