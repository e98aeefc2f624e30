-- Ends in which the condition's expression holds, and ends in which it doesn't.
use Rattle.std.proofs.Common.{◌≡◌, ◌≢◌, ℕ, zero, suc, ◌+◌, ◌≤◌, ◌==◌, Bool, true, false, cond, List, [], ◌∷◌, Contains}
use Rattle.std.proofs.Common.{codes, if◌then◌else◌, length, refl, sym, ap, ◌∙◌, true≢false, arith, ◌⊎◌, inl, inr}
use Rattle.std.proofs.lemmas.Bool.{eq-eqb, eqb-true}
use Rattle.litmus_reader.specs.Litmus.{Litmus}
use Rattle.report.specs.EveryText.{held_of, is_held, often}

-- ---- what the count says of each end

counted : (b : Bool) → cond b 1 0 ≤ 1
counted true = omega arith
counted false = omega arith

not_counted : (b : Bool) (n : ℕ) → cond b 1 0 + n ≡ 0 → b ≡ false
not_counted true n none = absurd (omega (arith, none))
not_counted false n none = refl

is_counted : (b : Bool) (n most : ℕ) → n ≤ most → cond b 1 0 + n ≡ suc most → b ≡ true
is_counted true n most few all = refl
is_counted false n most few all = absurd (omega (arith, few, all))

module _ (test : Litmus) where
  abbrev pub Has : List (List ℕ) → Bool → Type 0
  Has ends held = (values : List ℕ) × Contains ends values × (is_held test values ≡ held)

  at_most_all : (ends : List (List ℕ)) → held_of test ends ≤ length ends
  at_most_all [] = omega arith
  at_most_all (first ∷ ends) =
      let one = counted (is_held test first) in let rest = at_most_all ends in omega (arith, one, rest)

  none_held : (ends : List (List ℕ)) (values : List ℕ) → held_of test ends ≡ 0 → Contains ends values →
      is_held test values ≡ false
  none_held [] values none (k, within, is) = absurd (omega (arith, within))
  none_held (first ∷ ends) values none (zero, within, is) =
      ap (is_held test) (sym is) ∙ not_counted (is_held test first) (held_of test ends) none
  none_held (first ∷ ends) values none (suc k, within, is) =
      none_held ends values (omega (arith, none)) (k, omega (arith, within), is)

  all_held : (ends : List (List ℕ)) (values : List ℕ) → held_of test ends ≡ length ends → Contains ends values →
      is_held test values ≡ true
  all_held [] values all (k, within, is) = absurd (omega (arith, within))
  all_held (first ∷ ends) values all (zero, within, is) = ap (is_held test) (sym is)
      ∙ is_counted (is_held test first) (held_of test ends) (length ends) (at_most_all ends) all
  all_held (first ∷ ends) values all (suc k, within, is) =
      let one = counted (is_held test first) in
      let few = at_most_all ends in
      all_held ends values (omega (arith, all, one, few)) (k, omega (arith, within), is)

  behind : (first : List ℕ) (ends : List (List ℕ)) (held : Bool) → Has ends held → Has (first ∷ ends) held
  behind first ends held (values, (k, within, is), holding) =
      (values, (suc k, omega (arith, within), is), holding)

  by_first : (held b : Bool) (first : List ℕ) (ends : List (List ℕ)) → is_held test first ≡ b →
      (b ≡ held) ⊎ Has ends held → Has (first ∷ ends) held
  by_first held b first ends is (inl here) = (first, (0, omega arith, refl), is ∙ here)
  by_first held b first ends is (inr later) = behind first ends held later

  some_held : (ends : List (List ℕ)) → held_of test ends ≢ 0 → Has ends true
  some_held [] some = absurd (some refl)
  some_held (first ∷ ends) some =
      by_first true (is_held test first) first ends refl (first_or (is_held test first) (some_held ends) some)
    where
      first_or : (b : Bool) → (held_of test ends ≢ 0 → Has ends true) → cond b 1 0 + held_of test ends ≢ 0 →
          (b ≡ true) ⊎ Has ends true
      first_or true later has = inl refl
      first_or false later has = inr (later (λ none. has (omega (arith, none))))

  some_not : (ends : List (List ℕ)) → held_of test ends ≢ length ends → Has ends false
  some_not [] not_all = absurd (not_all refl)
  some_not (first ∷ ends) not_all =
      by_first false (is_held test first) first ends refl (first_or (is_held test first) (some_not ends) not_all)
    where
      first_or : (b : Bool) → (held_of test ends ≢ length ends → Has ends false) →
          cond b 1 0 + held_of test ends ≢ suc (length ends) → (b ≡ false) ⊎ Has ends false
      first_or false later lacks = inl refl
      first_or true later lacks = inr (later (λ all. lacks (omega (arith, all))))

-- ---- what the word says of the count

module _ (held ends : ℕ) where
  abbrev by_tests : (none all : Bool) → List ℕ
  by_tests none all = if none then codes "Never" else if all then codes "Always" else codes "Sometimes"

  never_is : (none all : Bool) → (held == 0) ≡ none → by_tests none all ≡ codes "Never" → held ≡ 0
  never_is true all is same = eqb-true held 0 is
  never_is false true is same = absurd cc
  never_is false false is same = absurd cc

  always_is : (none all : Bool) → (held == ends) ≡ all → by_tests none all ≡ codes "Always" → held ≡ ends
  always_is true all is same = absurd cc
  always_is false true is same = eqb-true held ends is
  always_is false false is same = absurd cc

  sometimes_is : (none all : Bool) → (held == 0) ≡ none → (held == ends) ≡ all →
      by_tests none all ≡ codes "Sometimes" → (held ≢ 0) × (held ≢ ends)
  sometimes_is true all zero_ whole same = absurd cc
  sometimes_is false true zero_ whole same = absurd cc
  sometimes_is false false none all same = (
    λ (e : held ≡ 0). true≢false (sym (eq-eqb held 0 e) ∙ none),
    λ (e : held ≡ ends). true≢false (sym (eq-eqb held ends e) ∙ all),
  )

-- ---- what the word says of the ends

module _ (test : Litmus) (ends : List (List ℕ)) where
  abbrev count : ℕ
  count = held_of test ends

  abbrev word : List ℕ
  word = often count (length ends)

  pub never : word ≡ codes "Never" → (values : List ℕ) → Contains ends values → is_held test values ≡ false
  never is values has =
      none_held test ends values (never_is count (length ends) (count == 0) (count == length ends) refl is) has

  pub always : word ≡ codes "Always" → (values : List ℕ) → Contains ends values → is_held test values ≡ true
  always is values has =
      all_held test ends values (always_is count (length ends) (count == 0) (count == length ends) refl is) has

  pub sometimes : word ≡ codes "Sometimes" → (held : Bool) → Has test ends held
  sometimes is held = of_both held (sometimes_is count (length ends) (count == 0) (count == length ends) refl refl is)
    where
      of_both : (b : Bool) → (count ≢ 0) × (count ≢ length ends) → Has test ends b
      of_both true apart = some_held test ends apart.0
      of_both false apart = some_not test ends apart.1
