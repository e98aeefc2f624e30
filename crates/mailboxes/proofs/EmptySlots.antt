-- Slots that come in, looked at one after the other and going round.
use Rattle.std.proofs.Common.{◌≡◌, ℕ, zero, suc, ◌+◌, ◌-◌, ◌*◌, ◌/◌, ◌%◌, ◌<◌, ◌≤◌, List, [], ◌∷◌, ◌++◌, append_assoc}
use Rattle.std.proofs.Common.{append-nil, cond, nat_lt, Bool, true, false, Option, Some, None, ⊎_elim, sym, ap, ◌∙◌}
use Rattle.std.proofs.Common.{subst, arith, mod-eq_of_lt}
use Rattle.std.specs.Prelude.{MatchOption}
use Rattle.std.proofs.Math.Nat.{mod-add-mod}
use Rattle.std.proofs.lemmas.Nat.{div-add-mod', mod_below, mod-mul-add}
use native.Mathlib.Nat.{suc-mul}
use mathlib.Core.Option.{none}
use Rattle.atomic_table.specs.Table.{step}
use Rattle.seat_views.specs.Seated.{with_hold}
use Rattle.seat_rule.specs.declared.views.SetUp.{SetUp}
use Rattle.seat_rule.specs.declared.views.Stage.{Stage}
use Rattle.seat_rule.specs.declared.views.Stage.TheVariants.{Idle, Reading}
use Rattle.seat_rule.specs.Plays.{SeatState, looked, looking, saw_in}
use Rattle.seat_rule.specs.Rule.{node_of}
use Rattle.mailboxes.specs.BoxMoves.{FindsFull, FindsNone}
use Rattle.mailboxes.specs.Places.{EndsAt, found_empty, incoming, incoming_count, incoming_link, incoming_stride}
use Rattle.mailboxes.proofs.LinkEnds.{slot_ends}

-- the place after the n-th from a start is so far from there
place_on : (start n k place count : ℕ) → place % count ≡ (start + n) % count →
    (place + k) % count ≡ (start + (n + k)) % count
place_on start n k place count is =
    let whole : start + n + k ≡ start + (n + k) = omega arith in
    sym (mod-add-mod place count k) ∙ ap (λ m. (m + k) % count) is ∙ mod-add-mod (start + n) count k
    ∙ ap (λ m. m % count) whole

-- the place of the last slots that are looked at, which are those of the first link
pub last_place : (cursor count column : ℕ) → 0 < count → column ≤ cursor % count →
    cursor % count - column ≡ (cursor + (count - column)) % count
last_place cursor count column some low =
    let r : ℕ = cursor % count in
    let q : ℕ = cursor / count in
    let near : r < count = mod_below cursor count some in
    let whole = div-add-mod' cursor count in
    let more = suc-mul q count in
    let round : cursor + (count - column) ≡ suc q * count + (r - column) = omega (arith, whole, more, near, low) in
    sym (ap (λ x. x % count) round ∙ mod-mul-add (suc q) count (r - column) (omega (arith, near)))

-- the places of a link, and their slots
within_link : (place k slots ends : ℕ) → place < 4 * ends → place % 4 + slots ≤ 4 → k < slots → place + k < 4 * ends
within_link place k slots ends near few less = omega arith

pub link_slot : (cores banks number place k slots slot : ℕ) → place < incoming_count cores banks number →
    place % 4 + slots ≤ 4 → k < slots → slot ≡ incoming cores banks number place →
    (place + k < incoming_count cores banks number)
    × (slot + k ≡ incoming cores banks number ((place + k) % incoming_count cores banks number))
link_slot cores banks number place k slots slot near few less is =
    let within = within_link place k slots (cond (nat_lt number cores) banks cores) near few less in
    let row : (place + k) / 4 ≡ place / 4 = omega arith in
    let column : (place + k) % 4 ≡ place % 4 + k = omega arith in
    let links = ap (incoming_link cores banks number) row in
    let next : slot + k ≡ incoming cores banks number (place + k) = omega (arith, is, links, column) in
    (within, next ∙ ap (incoming cores banks number) (sym (mod-eq_of_lt within)))

-- the slot that is a link further
next_number : (b : Bool) (cores banks number i : ℕ) →
    cond b (cores * banks + (suc i * cores + number)) (suc i * banks + (number - cores))
    ≡ cond b (cores * banks + (i * cores + number)) (i * banks + (number - cores)) + cond b cores banks
next_number true cores banks number i = let more = suc-mul i cores in omega (arith, more)
next_number false cores banks number i = let more = suc-mul i banks in omega (arith, more)

pub next_slot : (cores banks number place : ℕ) →
    incoming cores banks number place + incoming_stride cores banks number ≡ incoming cores banks number (place + 4)
next_slot cores banks number place =
    let row : (place + 4) / 4 ≡ suc (place / 4) = omega arith in
    let column : (place + 4) % 4 ≡ place % 4 = omega arith in
    let links = ap (incoming_link cores banks number) row in
    let next = next_number (nat_lt number cores) cores banks number (place / 4) in
    omega (arith, links, column, next)

-- the first slot of a link
pub link_slots : (cores banks number from : ℕ) →
    incoming cores banks number 0 + from * incoming_stride cores banks number ≡ incoming cores banks number (4 * from)
link_slots cores banks number zero = omega arith
link_slots cores banks number (suc from) =
    let further : 4 * from + 4 ≡ 4 * suc from = omega arith in
    let slot = ap (incoming cores banks number) further in
    let before = link_slots cores banks number from in
    let next = next_slot cores banks number (4 * from) in
    let more = suc-mul from (incoming_stride cores banks number) in
    omega (arith, slot, before, next, more)

-- each place has a slot, which comes in
pub place_ends : (z : SetUp) (number start n place slot : ℕ) → number < z.config.cores + z.config.banks →
    0 < incoming_count z.config.cores z.config.banks number →
    place ≡ (start + n) % incoming_count z.config.cores z.config.banks number →
    slot ≡ incoming z.config.cores z.config.banks number place →
    (place < incoming_count z.config.cores z.config.banks number) × EndsAt z slot number
place_ends z number start n place slot below some at is =
    let count : ℕ = incoming_count z.config.cores z.config.banks number in
    let near : place < count = subst (λ k. k < count) (sym at) (mod_below (start + n) count some) in
    (near, subst (λ k. EndsAt z k number) (sym is) (slot_ends z number place below near))

-- one more look, after n that found nothing
module _ (z : SetUp) (number start n slot r : ℕ) (s t u : SeatState) (named : s.0.number ≡ number)
    (so : FindsNone z number start n s t)
    (at : slot ≡
    incoming z.config.cores z.config.banks number
    ((start + n) % incoming_count z.config.cores z.config.banks number))
    (key : SetUp) (same : key ≡ z) (saw : saw_in key (step 0 slot 0 0 none) t r u) where
  abbrev count : ℕ
  count = incoming_count z.config.cores z.config.banks number

  abbrev empty : ℕ → List (ℕ × ℕ)
  empty m = found_empty z.config.cores z.config.banks number start m

  after_look : (w : ℕ) (st : Stage) → u.0 ≡ with_hold t.0 (looked t.0.mine slot w st) →
      u.0 ≡ with_hold s.0 (looking s.0.mine (empty n ++ (slot, w) ∷ []) st)
  after_look w st is =
      is ∙ ap (λ (v : SeatState). with_hold v.0 (looked v.0.mine slot w st)) so
      ∙ ap (λ (ls : List (ℕ × ℕ)). with_hold s.0 (record s.0.mine { looks = ls; stage = st }))
      (append_assoc s.0.mine.looks (empty n) ((slot, w) ∷ []))

  -- it found the slot empty
  pub one_more_empty : r ≡ 0 → FindsNone z number start (n + 1) s u
  one_more_empty nothing =
      let more : suc n ≡ n + 1 = omega arith in
      ⊎_elim
      (λ e.
      let now = after_look 0 Idle e.1
      ∙ ap (λ (k : ℕ). with_hold s.0 (looking s.0.mine (empty n ++ (k, 0) ∷ []) Idle)) at
      ∙ ap (λ m. with_hold s.0 (looking s.0.mine (empty m) Idle)) more in
      let out = e.2 ∙ ap (λ (v : SeatState). v.1) so in
      λ i. (now i, out i))
      (λ f. absurd (let one : 0 ≡ 1 = sym nothing ∙ f.0 in omega (arith, one)))
      saw

  -- it found the slot full
  pub first_full : (after slots : ℕ) → after ≡ ((start + n) % count + 1) % count → n < slots → (r ≡ 0 → ⊥) →
      FindsFull z number start slots (slot, after) s u
  first_full after slots next few some =
      ⊎_elim (λ e. absurd (some e.0))
      (λ f.
      let x = f.1.0 in
      let whose = ap (λ (v : SeatState). v.0.number) so ∙ named in
      let now = after_look 1 (Reading slot x) f.1.1 in
      let out = f.1.2 ∙ ap (λ (v : SeatState). (slot, Some x) ∷ v.1) so in
      (n, x, few, at, next, f.1.3 ∙ (λ i. node_of (same i) (whose i)), λ i. (now i, out i)))
      saw

-- no look finds nothing
pub none_yet : (z : SetUp) (number start : ℕ) (s : SeatState) → s.0.mine.stage ≡ Idle → s.1 ≡ [] →
    FindsNone z number start 0 s s
none_yet z number start s idle out =
    let looks = sym (append-nil s.0.mine.looks) in
    λ i. (with_hold s.0 (record s.0.mine { looks = looks i; stage = idle i }), out i)

-- more looks, after n from a start that found nothing
module _ (z : SetUp) (number start n place : ℕ) (s t : SeatState) (so : FindsNone z number start n s t)
    (at : place % incoming_count z.config.cores z.config.banks number
    ≡ (start + n) % incoming_count z.config.cores z.config.banks number) where
  abbrev all : ℕ
  all = incoming_count z.config.cores z.config.banks number

  abbrev from : ℕ → ℕ → List (ℕ × ℕ)
  from first m = found_empty z.config.cores z.config.banks number first m

  both : (k : ℕ) → from start n ++ from place k ≡ from start (n + k)
  both zero = append-nil (from start n) ∙ ap (from start) (let e : n ≡ n + 0 = omega arith in e)
  both (suc k) =
      let e : suc (n + k) ≡ n + suc k = omega arith in
      let next = λ (j : ℕ). (incoming z.config.cores z.config.banks number j, 0) ∷ [] in
      sym (append_assoc (from start n) (from place k) (next ((place + k) % all)))
      ∙ ap (λ xs. xs ++ next ((place + k) % all)) (both k)
      ∙ ap (λ j. from start (n + k) ++ next j) (place_on start n k place all at) ∙ ap (from start) e

  after_looks : (v : SeatState) (k : ℕ) (xs : List (ℕ × ℕ)) (st : Stage) →
      v.0 ≡ with_hold t.0 (looking t.0.mine (from place k ++ xs) st) →
      v.0 ≡ with_hold s.0 (looking s.0.mine (from start (n + k) ++ xs) st)
  after_looks v k xs st is =
      is ∙ ap (λ (w : SeatState). with_hold w.0 (looking w.0.mine (from place k ++ xs) st)) so
      ∙ ap (λ (ls : List (ℕ × ℕ)). with_hold s.0 (record s.0.mine { looks = ls; stage = st }))
      (append_assoc s.0.mine.looks (from start n) (from place k ++ xs)
      ∙ ap (λ ls. s.0.mine.looks ++ ls)
      (sym (append_assoc (from start n) (from place k) xs) ∙ ap (λ ls. ls ++ xs) (both k)))

  pub none_on : (k m : ℕ) (u : SeatState) → n + k ≡ m → FindsNone z number place k t u → FindsNone z number start m s u
  none_on k m u is found =
      let bare = append-nil (from place k) in
      let now = after_looks u k [] Idle
      (ap (λ (v : SeatState). v.0) found
      ∙ ap (λ ls. with_hold t.0 (looking t.0.mine ls Idle)) (sym bare))
      ∙ ap (λ ls. with_hold s.0 (looking s.0.mine ls Idle)) (append-nil (from start (n + k)) ∙ ap (from start) is) in
      let out = ap (λ (v : SeatState). v.1) found in
      λ i. (now i, out i)

  pub full_on : (k m : ℕ) (f : ℕ × ℕ) (u : SeatState) → n + k ≤ m → FindsFull z number place k f t u →
      FindsFull z number start m f s u
  full_on k m f u few found =
      let j : ℕ = found.0 in
      let less = found.2 in
      let turned = place_on start n j place all at in
      let now = after_looks u j ((f.0, 1) ∷ []) (Reading f.0 found.1) (ap (λ (v : SeatState). v.0) found.6) in
      let out = ap (λ (v : SeatState). v.1) found.6 in (
        n + j,
        found.1,
        omega (arith, few, less),
        found.3 ∙ ap (incoming z.config.cores z.config.banks number) turned,
        found.4 ∙ ap (λ p. (p + 1) % all) turned,
        found.5,
        λ i. (now i, out i),
      )

  pub found_on : (k m : ℕ) (o : Option (ℕ × ℕ)) (u : SeatState) → n + k ≡ m →
      MatchOption o (FindsNone z number place k t u) (λ f. FindsFull z number place k f t u) →
      MatchOption o (FindsNone z number start m s u) (λ f. FindsFull z number start m f s u)
  found_on k m None u is found = none_on k m u is found
  found_on k m (Some f) u is found = full_on k m f u (omega (arith, is)) found
