-- A pass over seats: one more row of turns in it, and what is at each place.
use Rattle.std.proofs.Common.{◌≡◌, ◌⊎◌, inl, inr, ℕ, zero, suc, ◌+◌, ◌<◌, ◌≤◌, ◌||◌, true, false, List, [], ◌∷◌, Some}
use Rattle.std.proofs.Common.{refl, sym, subst, ◌∙◌, true≢false, arith}
use Rattle.std.specs.Prelude.{slice_get, slice_set}
use Rattle.std.proofs.lemmas.Bool.{or_from, or_parts, or_right}
use Rattle.thread_driver.specs.declared.told.Told.{Told}
use Rattle.thread_driver.specs.Given.{TurnsGiven, more, quiet, rests, told_by_both}
use Rattle.thread_driver.specs.Teams.{InARow, PassGiven, ends, ends_all, follows, goes_on, is_followed, is_used}
use Rattle.thread_driver.specs.Teams.{row_end, stops}
use Rattle.thread_driver.proofs.Lists.{none_some, some_is}
use Rattle.thread_driver.proofs.Sums.{or_swap, told_assoc, told_quiet}

-- two turns end all if one of them does
both_end : (a b : Told) → ends_all (told_by_both a b) ≡ (ends_all a || ends_all b)
both_end a b = or_swap a.no_memory b.no_memory a.is_exhausted b.is_exhausted

-- neither of two turns that didn't end all together did
pub neither_ends : (a b : Told) → ends_all (told_by_both a b) ≡ false → (ends_all a ≡ false) × (ends_all b ≡ false)
neither_ends a b is = or_parts (ends_all a) (ends_all b) (sym (both_end a b) ∙ is)

-- two turns of which the second ended all, or neither did
pub second_ends : (a b : Told) → ends_all b ≡ true → ends_all (told_by_both a b) ≡ true
second_ends a b is = both_end a b ∙ or_right (ends_all a) (ends_all b) is

pub none_ends : (a b : Told) → ends_all a ≡ false → ends_all b ≡ false → ends_all (told_by_both a b) ≡ false
none_ends a b is is' = both_end a b ∙ or_from (ends_all a) (ends_all b) is is'

-- The first turns of a row, each followed: whatever row is the rest, all is a row.
abbrev pub RowSoFar : {X : Type 0} → (X → Told → X → Type 0) → ℕ → ℕ → X → Told → ℕ → X → Type 0
RowSoFar {X} Turn most n x all k y = (m : ℕ) (told : Told) (z : X) → InARow Turn most k y m told z →
    InARow Turn most n x m (told_by_both all told) z

module _ {X : Type 0} {Turn : X → Told → X → Type 0} where
  -- turns, and then a row of them
  pub given_row : {most i n m : ℕ} {x y z : X} {all told : Told} → TurnsGiven Turn x i all y →
      InARow Turn most n y m told z →
      (j : ℕ) × (j + n ≡ i + m) × TurnsGiven Turn x j (told_by_both all told) z
  given_row {i = i} {x = x} {y = y} {all = all} given (is_used le) =
      (i, refl, subst (λ t. TurnsGiven Turn x i t y) (sym (told_quiet all)) given)
  given_row {i = i} given (stops lt turn last) = (suc i, omega arith, more given turn)
  given_row {i = i} {x = x} {z = z} {all = all} given (follows {told = a} {all = b} lt turn on rest) =
      let r = given_row {i = suc i} (more given turn) rest in
      (r.0, (let e = r.1 in omega arith), subst (λ t. TurnsGiven Turn x r.0 t z) (told_assoc all a b) r.2)

  -- one turn more of a row, and its end: after a turn that isn't followed, and where all turns were used
  pub row_goes : {most n k : ℕ} {x y z : X} {told : Told} (all : Told) → RowSoFar Turn most n x all k y → k < most →
      Turn y told z → is_followed told ≡ true → RowSoFar Turn most n x (told_by_both all told) (k + 1) z
  row_goes {most = most} {n = n} {x = x} {told = told} all so_far lt turn on m rest w row =
      subst (λ t. InARow Turn most n x m t w) (sym (told_assoc all told rest))
      (so_far m (told_by_both told rest) w (follows lt turn on row))

  pub row_stops : {most n k : ℕ} {x y z : X} {told : Told} (all : Told) → RowSoFar Turn most n x all k y → k < most →
      Turn y told z → is_followed told ≡ false → InARow Turn most n x (k + 1) (told_by_both all told) z
  row_stops {k = k} {z = z} {told = told} all so_far lt turn last = so_far (k + 1) told z (stops lt turn last)

  pub row_used : {most n k : ℕ} {x y : X} {all : Told} → RowSoFar Turn most n x all k y → most ≤ k →
      InARow Turn most n x k all y
  row_used {most = most} {n = n} {k = k} {x = x} {y = y} {all = all} so_far le =
      subst (λ t. InARow Turn most n x k t y) (told_quiet all) (so_far k quiet y (is_used le))

  -- how many turns there are in a row
  pub row_rises : {most n m : ℕ} {x y : X} {told : Told} → InARow Turn most n x m told y → n ≤ m
  row_rises (is_used le) = omega arith
  row_rises (stops lt turn last) = omega arith
  row_rises (follows lt turn on rest) = let more_rise = row_rises rest in omega arith

  pub row_gives : {most n m : ℕ} {x y : X} {told : Told} → n < most → InARow Turn most n x m told y → n < m
  row_gives lt (is_used le) = absurd (omega (arith, le, lt))
  row_gives lt (stops below turn last) = omega arith
  row_gives lt (follows below turn on rest) = let more_rise = row_rises rest in omega arith

  pub row_within : {most n m : ℕ} {x y : X} {told : Told} (limit : ℕ) → most ≤ limit → n ≤ limit →
      InARow Turn most n x m told y → m ≤ limit
  row_within limit le within (is_used used) = within
  row_within limit le within (stops below turn last) = omega arith
  row_within limit le within (follows below turn on rest) = row_within limit le (omega arith) rest

module _ {X : Type 0} {Turn : X → Told → X → Type 0} {limit : ℕ} where
  -- the next of the list has its turns, if none before ended all
  pub passed_on : {k : ℕ} {ns ms : List ℕ} {xs ys : List X} {all : Told} (told : Told) (n m : ℕ) (y z : X) →
      ends_all all ≡ false → PassGiven Turn limit k ns xs all ms ys → slice_get ms k ≡ Some n →
      slice_get ys k ≡ Some y → InARow Turn (row_end limit n) n y m told z →
      PassGiven Turn limit (suc k) ns xs (told_by_both all told) (slice_set ms k m) (slice_set ys k z)
  passed_on told n m y z goes (ends {ns = ns} {xs = []}) had at row = none_some at
  passed_on told n m y z goes (ends {ns = []} {xs = x ∷ xs}) had at row = none_some had
  passed_on told n m y z goes (ends {ns = b ∷ ns} {xs = x ∷ xs}) had at row =
      subst (λ t. PassGiven Turn limit (suc zero) (b ∷ ns) (x ∷ xs) t (m ∷ ns) (z ∷ xs)) (told_quiet told)
      (goes_on (subst (λ c. InARow Turn (row_end limit c) c x m told z) (sym (some_is had))
      (subst (λ w. InARow Turn (row_end limit n) n w m told z) (sym (some_is at)) row)) (λ _. refl) ends)
  passed_on told n m y z goes
      (goes_on {k = k} {n = b} {m = c} {ns = ns} {ms = ms} {told = first} {all = all} {x = x} {y = w} {xs = xs}
      {ys = ys} given last rest) had at row =
      let neither = neither_ends first all goes in
      subst (λ t. PassGiven Turn limit (suc (suc k)) (b ∷ ns) (x ∷ xs) t (c ∷ slice_set ms k m)
      (w ∷ slice_set ys k z)) (sym (told_assoc first all told))
      (goes_on given (λ ended. absurd (true≢false (sym ended ∙ neither.0)))
      (passed_on told n m y z neither.1 rest had at row))

  -- the next of the list had no turn yet
  pub not_passed : {k : ℕ} {ns ms : List ℕ} {xs ys : List X} {all : Told} → PassGiven Turn limit k ns xs all ms ys →
      slice_get ys k ≡ slice_get xs k
  not_passed ends = refl
  not_passed (goes_on had last rest) = not_passed rest

  -- a pass of no turns
  pub none_given : {k : ℕ} {ns ms : List ℕ} {xs ys : List X} {all : Told} → PassGiven Turn limit k ns xs all ms ys →
      k ≡ zero → ys ≡ xs
  none_given ends is = refl
  none_given (goes_on had last rest) is = absurd (omega (arith, is))

  -- what is at a place was there before, or had turns
  pub passed_at : {k : ℕ} {ns ms : List ℕ} {xs ys : List X} {all : Told} → PassGiven Turn limit k ns xs all ms ys →
      (i : ℕ) (y : X) → slice_get ys i ≡ Some y →
      (x : X) × (slice_get xs i ≡ Some x) × ((x ≡ y) ⊎ ((n : ℕ) × (told : Told) × TurnsGiven Turn x n told y))
  passed_at ends i y at = (y, at, inl refl)
  passed_at (goes_on {told = told} {x = x} {y = w} had last rest) zero y at =
      let first : TurnsGiven Turn x zero quiet x = rests in
      let r = given_row first had in
      (x, refl, inr (r.0, told, subst (λ z. TurnsGiven Turn x r.0 told z) (some_is at) r.2))
  passed_at (goes_on had last rest) (suc i) y at = passed_at rest i y at
