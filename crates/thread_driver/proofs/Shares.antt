-- Turns that all of a list were given: one pass more, what is at each place, and lists that were dealt to hands.
use Rattle.std.proofs.Common.{◌≡◌, inl, inr, ⊎_elim, ℕ, zero, suc, ◌+◌, ◌*◌, ◌/◌, ◌%◌, ◌<◌, ◌≤◌, Bool, true, false}
use Rattle.std.proofs.Common.{◌||◌, List, [], ◌∷◌}
use Rattle.std.proofs.Common.{length, Some, get_or, refl, sym, ap, ap₂, subst, ◌∙◌, arith, true≢false}
use Rattle.std.specs.Prelude.{replicate, slice_get}
use Rattle.std.specs.List.{list_any}
use Rattle.std.proofs.lemmas.Bool.{cases_lt, or_cases, or_left, or_right}
use Rattle.std.proofs.lemmas.Nat.{mod_below}
use Rattle.round_robin.specs.Dealing.{IsDealtInTurn, hand_of}
use Rattle.round_robin.proofs.Lemmas.{item_at, lengths_of, same_place, split_place, turn_of}
use Rattle.thread_driver.specs.declared.told.Told.{Told}
use Rattle.thread_driver.specs.Given.{AllGiven, TurnsGiven, quiet, told_by_both, none, one_more, rests}
use Rattle.thread_driver.specs.Teams.{AreUsed, PassGiven, ends, goes_on, row_end}
use Rattle.thread_driver.proofs.Lists.{none_some, some_is}
use Rattle.thread_driver.proofs.Passes.{given_row, row_gives, row_rises, row_within}
use Rattle.thread_driver.proofs.Sums.{same_bool, told_quiet, told_swap}

-- one was given turns, so many, that told this
abbrev IsGiven : {X : Type 0} → (X → Told → X → Type 0) → (ℕ → Type 0) → X → Told → X → Type 0
IsGiven Turn Many x told y = (n : ℕ) × Many n × TurnsGiven Turn x n told y

-- Each of a list was given its number of turns, which lies within these bounds, and is at the same place in the other
-- list; and what all of these turns reported together.
pub data CountedGiven {X : Type 0} (Turn : X → Told → X → Type 0) (least most : ℕ) : List ℕ → List X → Told → List X →
    Type 0 where
  no_more : {ns : List ℕ} → CountedGiven Turn least most ns [] quiet []
  counted : {n : ℕ} {ns : List ℕ} {told all : Told} {x y : X} {xs ys : List X} → least ≤ n → n ≤ most →
      TurnsGiven Turn x n told y → CountedGiven Turn least most ns xs all ys →
      CountedGiven Turn least most (n ∷ ns) (x ∷ xs) (told_by_both told all) (y ∷ ys)

-- one turn more than the least number, whether or not it had fewer than there may be
one_higher : (least most n m : ℕ) → least < most → least ≤ n → (n < row_end most n → n < m) → n ≤ m → least + 1 ≤ m
one_higher least most n m lt low gives rises =
    ⊎_elim (λ (below : n < most). let g = gives (omega arith) in omega arith) (λ (le : most ≤ n). omega arith)
    (cases_lt n most)

module _ {X : Type 0} {Turn : X → Told → X → Type 0} where
  -- no turns
  pub none_given : (Many : ℕ → Type 0) → Many zero → (xs : List X) → AllGiven Turn Many xs quiet xs
  none_given Many is [] = none
  none_given Many is (x ∷ xs) = one_more {n = zero} is rests (none_given Many is xs)

  -- so many turns each, by their numbers
  pub none_counted : (most k : ℕ) (xs : List X) → length xs ≤ k →
      CountedGiven Turn 0 most (replicate k 0) xs quiet xs
  none_counted most k [] le = no_more
  none_counted most zero (x ∷ xs) le = absurd (omega (arith, le))
  none_counted most (suc k) (x ∷ xs) le =
      counted {n = zero} (omega arith) (omega arith) rests (none_counted most k xs (omega (arith, le)))

  pub given_within : {least most : ℕ} {Many : ℕ → Type 0} {ns : List ℕ} {xs ys : List X} {all : Told} →
      ((n : ℕ) → least ≤ n → n ≤ most → Many n) → CountedGiven Turn least most ns xs all ys →
      AllGiven Turn Many xs all ys
  given_within within no_more = none
  given_within within (counted {n = n} low high given rest) =
      one_more {n = n} (within n low high) given (given_within within rest)

  pub counted_long : {least most : ℕ} {ns : List ℕ} {xs ys : List X} {all : Told} →
      CountedGiven Turn least most ns xs all ys → length ys ≡ length xs
  counted_long no_more = refl
  counted_long (counted low high given rest) = ap suc (counted_long rest)

  -- all turns were used
  pub counted_used : {least most : ℕ} {ns : List ℕ} {xs ys : List X} {all : Told} →
      CountedGiven Turn least most ns xs all ys → AreUsed most (length xs) ns → CountedGiven Turn most most ns xs all ys
  counted_used no_more used = no_more
  counted_used (counted {n = n} low high given rest) used =
      counted (used zero n (omega arith) refl) high given
      (counted_used rest (λ i k lt at. used (suc i) k (omega (arith, lt)) at))

  -- a pass more, of which some have turns
  pub given_on : {least most k : ℕ} {ns ms : List ℕ} {xs ys zs : List X} {all told : Told} →
      CountedGiven Turn least most ns xs all ys → PassGiven Turn most k ns ys told ms zs →
      CountedGiven Turn least most ms xs (told_by_both all told) zs
  given_on {least = least} {most = most} {ns = ns} {xs = xs} {ys = ys} {all = all} given ends =
      subst (λ t. CountedGiven Turn least most ns xs t ys) (sym (told_quiet all)) given
  given_on {least = least} {most = most} (counted {n = n} {told = a} {all = c} {x = x} {xs = xs} low high given rest)
      (goes_on {m = m} {ms = ms} {told = b} {all = d} {y = z} {ys = zs} row last others) =
      let r = given_row given row in
      let same : r.0 ≡ m = let e = r.1 in omega arith in
      let rises = row_rises row in
      subst (λ t. CountedGiven Turn least most (m ∷ ms) (x ∷ xs) t (z ∷ zs)) (told_swap a b c d)
      (counted (omega arith) (row_within most (omega arith) high row)
      (subst (λ j. TurnsGiven Turn x j (told_by_both a b) z) same r.2) (given_on rest others))

  -- a pass more, of which all have turns
  pub given_whole : {least most k : ℕ} {ns ms : List ℕ} {xs ys zs : List X} {all told : Told} → least < most →
      CountedGiven Turn least most ns xs all ys → PassGiven Turn most k ns ys told ms zs → k ≡ length ys →
      CountedGiven Turn (least + 1) most ms xs (told_by_both all told) zs
  given_whole lt no_more ends whole = no_more
  given_whole lt (counted low high given rest) ends whole = absurd (omega (arith, whole))
  given_whole {least = least} {most = most} lt
      (counted {n = n} {told = a} {all = c} {x = x} {xs = xs} low high given rest)
      (goes_on {k = k} {m = m} {ms = ms} {told = b} {all = d} {y = z} {ys = zs} row last others) whole =
      let r = given_row given row in
      let same : r.0 ≡ m = let e = r.1 in omega arith in
      let more_had : least + 1 ≤ m = one_higher least most n m lt low (λ below. row_gives below row) (row_rises row) in
      subst (λ t. CountedGiven Turn (least + 1) most (m ∷ ms) (x ∷ xs) t (z ∷ zs)) (told_swap a b c d)
      (counted more_had (row_within most (omega arith) high row)
      (subst (λ j. TurnsGiven Turn x j (told_by_both a b) z) same r.2)
      (given_whole {k = k} lt rest others (omega (arith, whole))))

  -- the lists are as long
  pub given_long : {Many : ℕ → Type 0} {xs ys : List X} {all : Told} → AllGiven Turn Many xs all ys →
      length ys ≡ length xs
  given_long none = refl
  given_long (one_more many given rest) = ap suc (given_long rest)

  -- what is at a place was given turns
  pub given_to : {Many : ℕ → Type 0} {xs ys : List X} {all : Told} → AllGiven Turn Many xs all ys → (i : ℕ) (y : X) →
      slice_get ys i ≡ Some y →
      (x : X) × (slice_get xs i ≡ Some x) × ((n : ℕ) × (told : Told) × TurnsGiven Turn x n told y)
  given_to none i y at = none_some at
  given_to (one_more {n = n} {told = told} {x = x} many given rest) zero y at =
      (x, refl, (n, told, subst (λ z. TurnsGiven Turn x n told z) (some_is at) given))
  given_to (one_more many given rest) (suc i) y at = given_to rest i y at

  -- what the turns told of the one at a place
  abbrev told_at : {Many : ℕ → Type 0} {xs ys : List X} {all : Told} → AllGiven Turn Many xs all ys → ℕ → Told
  told_at none i = quiet
  told_at (one_more {told = told} many given rest) zero = told
  told_at (one_more many given rest) (suc i) = told_at rest i

  given_at : {Many : ℕ → Type 0} {xs ys : List X} {all : Told} (given : AllGiven Turn Many xs all ys) (i : ℕ)
      (x y : X) →
      slice_get xs i ≡ Some x → slice_get ys i ≡ Some y → IsGiven Turn Many x (told_at given i) y
  given_at none i x y at_x at_y = none_some at_x
  given_at (one_more {n = n} {told = told} {x = v} many given rest) zero x y at_x at_y = (
    n,
    many,
    subst (λ z. TurnsGiven Turn z n told y) (some_is at_x)
        (subst (λ z. TurnsGiven Turn v n told z) (some_is at_y) given),
  )
  given_at (one_more many given rest) (suc i) x y at_x at_y = given_at rest i x y at_x at_y

  -- all of a list, of which each was given turns
  at_front : (told : ℕ → Told) {Many : ℕ → Type 0} {n : ℕ} {all : Told} {x y : X} {xs ys : List X} (many : Many n)
      (first : TurnsGiven Turn x n (told zero) y) (given : AllGiven Turn Many xs all ys) →
      ((i : ℕ) → i < length xs → told_at given i ≡ told (suc i)) → (i : ℕ) → i < length (x ∷ xs) →
      told_at (one_more many first given) i ≡ told i
  at_front told many first given same zero lt = refl
  at_front told many first given same (suc i) lt = same i (omega arith)

  gathered : (Many : ℕ → Type 0) (xs ys : List X) (told : ℕ → Told) → length ys ≡ length xs →
      ((i : ℕ) (x y : X) → slice_get xs i ≡ Some x → slice_get ys i ≡ Some y → IsGiven Turn Many x (told i) y) →
      (all : Told) × (given : AllGiven Turn Many xs all ys)
      × ((i : ℕ) → i < length xs → told_at given i ≡ told i)
  gathered Many [] [] told long each = (quiet, none, λ i lt. absurd (omega (arith, lt)))
  gathered Many [] (y ∷ ys) told long each = absurd (omega (arith, long))
  gathered Many (x ∷ xs) [] told long each = absurd (omega (arith, long))
  gathered Many (x ∷ xs) (y ∷ ys) told long each =
      let first = each zero x y refl refl in
      let rest = gathered Many xs ys (λ i. told (suc i)) (omega (arith, long)) (λ i v w e f. each (suc i) v w e f) in (
        told_by_both (told zero) rest.0,
        one_more first.1 first.2 rest.1,
        at_front told first.1 first.2 rest.1 rest.2,
      )

  -- what turns told, one by one and together
  module _ (says : Told → Bool) (adds : (a b : Told) → says (told_by_both a b) ≡ (says a || says b))
      (silent : says quiet ≡ false) where
    said_at : {Many : ℕ → Type 0} {xs ys : List X} {all : Told} (given : AllGiven Turn Many xs all ys) (i : ℕ) →
        says (told_at given i) ≡ true → says all ≡ true
    said_at none i is = absurd (true≢false (sym is ∙ silent))
    said_at (one_more {told = told} {all = all} many given rest) zero is =
        adds told all ∙ or_left (says told) (says all) is
    said_at (one_more {told = told} {all = all} many given rest) (suc i) is =
        adds told all ∙ or_right (says told) (says all) (said_at rest i is)

    said_by : {Many : ℕ → Type 0} {xs ys : List X} {all : Told} (given : AllGiven Turn Many xs all ys) →
        says all ≡ true →
        (i : ℕ) × (i < length xs) × (says (told_at given i) ≡ true)
    said_by none is = absurd (true≢false (sym is ∙ silent))
    said_by (one_more {told = told} {all = all} many given rest) is =
        elim (or_cases (says told) (says all) (sym (adds told all) ∙ is)) [
          | inl here ↦ (zero, omega arith, here)
          | inr later ↦ (let s = said_by rest later in (suc s.0, (let lt = s.1 in omega (arith, lt)), s.2))
        ]

-- The lists in hands were given turns, and what was told in each hand.
pub data HandsGiven {X : Type 0} (Turn : X → Told → X → Type 0) (Many : ℕ → Type 0) : List (List X) → List Told →
    List (List X) → Type 0 where
  no_hand : HandsGiven Turn Many [] [] []
  one_hand : {told : Told} {xs ys : List X} {tolds : List Told} {before after : List (List X)} →
      AllGiven Turn Many xs told ys → HandsGiven Turn Many before tolds after →
      HandsGiven Turn Many (xs ∷ before) (told ∷ tolds) (ys ∷ after)

module _ {X : Type 0} {Turn : X → Told → X → Type 0} where
  -- what was told at a place of a hand
  abbrev told_in : {Many : ℕ → Type 0} {before after : List (List X)} {tolds : List Told} →
      HandsGiven Turn Many before tolds after → ℕ → ℕ → Told
  told_in no_hand h k = quiet
  told_in (one_hand given rest) zero k = told_at given k
  told_in (one_hand given rest) (suc h) k = told_in rest h k

  given_in : {Many : ℕ → Type 0} {before after : List (List X)} {tolds : List Told}
      (hands : HandsGiven Turn Many before tolds after) (h k : ℕ) (x y : X) →
      slice_get (get_or before h []) k ≡ Some x → slice_get (get_or after h []) k ≡ Some y →
      IsGiven Turn Many x (told_in hands h k) y
  given_in no_hand h k x y at_x at_y = none_some at_x
  given_in (one_hand given rest) zero k x y at_x at_y = given_at given k x y at_x at_y
  given_in (one_hand given rest) (suc h) k x y at_x at_y = given_in rest h k x y at_x at_y

  module _ (says : Told → Bool) (adds : (a b : Told) → says (told_by_both a b) ≡ (says a || says b))
      (silent : says quiet ≡ false) where
    said_in : {Many : ℕ → Type 0} {before after : List (List X)} {tolds : List Told}
        (hands : HandsGiven Turn Many before tolds after) (h k : ℕ) → says (told_in hands h k) ≡ true →
        list_any says tolds ≡ true
    said_in no_hand h k is = absurd (true≢false (sym is ∙ silent))
    said_in (one_hand {told = told} {tolds = tolds} given rest) zero k is =
        or_left (says told) (list_any says tolds) (said_at says adds silent given k is)
    said_in (one_hand {told = told} {tolds = tolds} given rest) (suc h) k is =
        or_right (says told) (list_any says tolds) (said_in rest h k is)

    said_by_hand : {Many : ℕ → Type 0} {before after : List (List X)} {tolds : List Told}
        (hands : HandsGiven Turn Many before tolds after) → list_any says tolds ≡ true →
        (h : ℕ) × (k : ℕ) × (h < length before) × (k < length (get_or before h []))
        × (says (told_in hands h k) ≡ true)
    said_by_hand no_hand is = absurd (true≢false (sym is))
    said_by_hand (one_hand {told = told} {tolds = tolds} given rest) is =
        elim (or_cases (says told) (list_any says tolds) is) [
          | inl here ↦ (let s = said_by says adds silent given here in (zero, s.0, omega arith, s.1, s.2))
          | inr later ↦
              (let s = said_by_hand rest later in (suc s.0, s.1, (let lt = s.2 in omega (arith, lt)), s.3, s.4))
        ]

  -- A list that was dealt to hands, and the one that is gathered from them
  module _ (Many : ℕ → Type 0) (first n : ℕ) (xs ys : List X) (before after : List (List X)) (tolds : List Told)
      (hands : HandsGiven Turn Many before tolds after) (dealt : IsDealtInTurn xs first n before)
      (back : IsDealtInTurn ys first n after) (long : length ys ≡ length xs) where
    abbrev told_of : ℕ → Told
    told_of i = told_in hands (hand_of first n (i % n)) (i / n)

    all_gathered : (all : Told) × (given : AllGiven Turn Many xs all ys)
        × ((i : ℕ) → i < length xs → told_at given i ≡ told_of i)
    all_gathered =
        gathered Many xs ys told_of long
        (λ i x y at_x at_y. given_in hands (hand_of first n (i % n)) (i / n) x y
        (sym (item_at xs first n before dealt i) ∙ at_x) (sym (item_at ys first n after back i) ∙ at_y))

    pub gathered_told : Told
    gathered_told = all_gathered.0

    pub gathered_given : AllGiven Turn Many xs gathered_told ys
    unfolding gathered_told
    gathered_given = all_gathered.1

    module _ (says : Told → Bool) (adds : (a b : Told) → says (told_by_both a b) ≡ (says a || says b))
        (silent : says quiet ≡ false) where
      was_said : says all_gathered.0 ≡ true → list_any says tolds ≡ true
      was_said is =
          let s = said_by says adds silent all_gathered.1 is in
          said_in says adds silent hands (hand_of first n (s.0 % n)) (s.0 / n)
          (ap says (sym (all_gathered.2 s.0 s.1)) ∙ s.2)

      is_said : list_any says tolds ≡ true → says all_gathered.0 ≡ true
      is_said is =
          let s = said_by_hand says adds silent hands is in
          let there = s.2 in
          let count = dealt.count in
          let turn = turn_of first n s.0 (omega (arith, there, count)) in
          let i : ℕ = n * s.1 + turn.0 in
          let place = same_place n (i / n) (i % n) s.1 turn.0 (mod_below i n dealt.some) turn.1
          (sym (split_place n i)) in
          let same : told_of i ≡ told_in hands s.0 s.1 =
          ap₂ (λ h k. told_in hands h k) (ap (hand_of first n) place.1 ∙ turn.2) place.0 in
          let lt : i < length xs =
          ((lengths_of xs first n before dealt).at turn.0 s.1 turn.1).0
          (subst (λ h. s.1 < length (get_or before h [])) (sym turn.2) s.3) in
          said_at says adds silent all_gathered.1 i (ap says (all_gathered.2 i lt ∙ same) ∙ s.4)

      pub said_together : says gathered_told ≡ list_any says tolds
      unfolding gathered_told
      said_together = same_bool (says all_gathered.0) (list_any says tolds) was_said is_said
