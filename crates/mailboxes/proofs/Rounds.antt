-- All slots that come in, looked at from a cursor on and going round: the rest of its link, the links after it, those
-- before it, and the first slots of its own.
use Rattle.std.proofs.Common.{◌≡◌, ℕ, ◌+◌, ◌-◌, ◌*◌, ◌/◌, ◌%◌, ◌<◌, ◌≤◌, [], Option, sym, ap, refl, ◌∙◌, subst}
use Rattle.std.proofs.Common.{arith, mod-eq_of_lt}
use Rattle.std.specs.Prelude.{MatchOption}
use Rattle.std.proofs.Math.Nat.{mod-add-mod}
use Rattle.std.proofs.lemmas.Nat.{mod_below, mod-mul-add}
use Rattle.seat_rule.specs.declared.views.SetUp.{SetUp}
use Rattle.seat_rule.specs.declared.views.Stage.TheVariants.{Idle}
use Rattle.seat_rule.specs.Plays.{SeatState}
use Rattle.mailboxes.specs.BoxMoves.{FindsFull, FindsNone}
use Rattle.mailboxes.specs.Places.{incoming_count}
use Rattle.mailboxes.proofs.EmptySlots.{found_on, full_on, last_place, none_on, none_yet}

module _ (z : SetUp) (number cursor start count : ℕ) (is : start ≡ cursor % count) (some : 4 ≤ count)
    (same : count ≡ incoming_count z.config.cores z.config.banks number) (s : SeatState) where
  abbrev all : ℕ
  all = incoming_count z.config.cores z.config.banks number

  -- how many slots the rest of the link has, the links after it, and all but the first ones of the link
  abbrev rest : ℕ
  rest = 4 - start % 4

  abbrev later : ℕ
  later = 4 * (count / 4 - start / 4 - 1)

  abbrev early : ℕ
  early = 4 * (start / 4)

  below : start < count
  below = subst (λ k. k < count) (sym is) (mod_below cursor count (omega (arith, some)))

  -- together they are all
  pub whole : rest + later + early + start % 4 ≡ all
  whole = let b = below in omega (arith, same, b)

  turned : (k : ℕ) → (start + k) % count ≡ (cursor + k) % count
  turned k = ap (λ m. (m + k) % count) is ∙ mod-add-mod cursor count k

  -- the place after so many looks
  abbrev At : ℕ → ℕ → Type 0
  At place looks = place % all ≡ (cursor + looks) % all

  at : (place looks : ℕ) → place % count ≡ (cursor + looks) % count → At place looks
  at place looks here = subst (λ m. place % m ≡ (cursor + looks) % m) same here

  at_start : At start 0
  at_start = let e : start ≡ start + 0 = omega arith in at start 0 (ap (λ m. m % count) e ∙ turned 0)

  at_later : At (start - start % 4 + 4) rest
  at_later =
      let e : start - start % 4 + 4 ≡ start + rest = omega arith in
      at (start - start % 4 + 4) rest (ap (λ m. m % count) e ∙ turned rest)

  at_early : At 0 (rest + later)
  at_early =
      let b = below in
      let positive : 0 < count = omega (arith, some) in
      let e : 1 * count + 0 ≡ start + (rest + later) = omega (arith, same, b) in
      at 0 (rest + later)
      (mod-eq_of_lt positive ∙ sym (mod-mul-add 1 count 0 positive) ∙ ap (λ m. m % count) e ∙ turned (rest + later))

  at_last : At (start - start % 4) (rest + later + early)
  at_last =
      let b = below in
      let positive : 0 < count = omega (arith, some) in
      let inside : start - start % 4 < count = omega (arith, b) in
      let low : start % 4 ≤ start = omega arith in
      let e : count - start % 4 ≡ rest + later + early = omega (arith, same, b) in
      at (start - start % 4) (rest + later + early)
      (mod-eq_of_lt inside ∙ ap (λ k. k - start % 4) is
      ∙ last_place cursor count (start % 4) positive (subst (λ k. start % 4 ≤ k) is low)
      ∙ ap (λ k. (cursor + k) % count) e)

  pub rest_none : (t : SeatState) → s.0.mine.stage ≡ Idle → s.1 ≡ [] → FindsNone z number start rest s t →
      FindsNone z number cursor rest s t
  rest_none t idle out found =
      none_on z number cursor 0 start s s (none_yet z number cursor s idle out) at_start rest rest t (omega arith) found

  pub rest_full : (f : ℕ × ℕ) (t : SeatState) → s.0.mine.stage ≡ Idle → s.1 ≡ [] →
      FindsFull z number start rest f s t → FindsFull z number cursor all f s t
  rest_full f t idle out found =
      full_on z number cursor 0 start s s (none_yet z number cursor s idle out) at_start rest all f t
      (let w = whole in omega (arith, w)) found

  pub later_none : (t u : SeatState) → FindsNone z number cursor rest s t →
      FindsNone z number (start - start % 4 + 4) later t u → FindsNone z number cursor (rest + later) s u
  later_none t u so found =
      none_on z number cursor rest (start - start % 4 + 4) s t so at_later later (rest + later) u refl found

  pub later_full : (f : ℕ × ℕ) (t u : SeatState) → FindsNone z number cursor rest s t →
      FindsFull z number (start - start % 4 + 4) later f t u → FindsFull z number cursor all f s u
  later_full f t u so found =
      full_on z number cursor rest (start - start % 4 + 4) s t so at_later later all f u
      (let w = whole in omega (arith, w)) found

  pub early_none : (t u : SeatState) → FindsNone z number cursor (rest + later) s t →
      FindsNone z number 0 early t u → FindsNone z number cursor (rest + later + early) s u
  early_none t u so found =
      none_on z number cursor (rest + later) 0 s t so at_early early (rest + later + early) u refl found

  pub early_full : (f : ℕ × ℕ) (t u : SeatState) → FindsNone z number cursor (rest + later) s t →
      FindsFull z number 0 early f t u → FindsFull z number cursor all f s u
  early_full f t u so found =
      full_on z number cursor (rest + later) 0 s t so at_early early all f u (let w = whole in omega (arith, w)) found

  pub last_found : (o : Option (ℕ × ℕ)) (t u : SeatState) → FindsNone z number cursor (rest + later + early) s t →
      MatchOption o (FindsNone z number (start - start % 4) (start % 4) t u)
      (λ f. FindsFull z number (start - start % 4) (start % 4) f t u) →
      MatchOption o (FindsNone z number cursor all s u) (λ f. FindsFull z number cursor all f s u)
  last_found o t u so found =
      found_on z number cursor (rest + later + early) (start - start % 4) s t so at_last (start % 4) all o u whole found
