-- Looks at all places of a seat, from any one on and going round, are looks at all slots that come in to it.
use Rattle.std.proofs.Common.{◌≡◌, ℕ, ◌+◌, ◌-◌, ◌*◌, ◌/◌, ◌%◌, ◌<◌, ◌≤◌, Bool, true, false, cond, ltb, zero, suc}
use Rattle.std.proofs.Common.{sym, refl, ap, ◌∙◌, subst, arith, mul_comm, mul_assoc, lt-ltb, le-ltb}
use Rattle.std.proofs.Common.{List, [], ◌∷◌, ◌++◌, length, Some, length-append}
use Rattle.std.specs.Prelude.{slice_get}
use native.Mathlib.Nat.{suc-mul}
use Rattle.std.proofs.lemmas.Nat.{div-add-mod', div_below, mod_below, mod-mul-add}
use Rattle.std.proofs.lemmas.Bool.{ltb-true, ltb-false}
use Rattle.seat_rule.specs.declared.views.SetUp.{SetUp}
use Rattle.seat_rule.specs.Rule.{slot_count, target, to_of}
use Rattle.mailboxes.specs.Places.{incoming, incoming_count, incoming_link, found_empty, AllFoundEmpty}

-- a place among the slots that come in
abbrev pub Place : ℕ → ℕ → ℕ → ℕ → Type 0
Place cores banks number k = (i : ℕ) × (i < incoming_count cores banks number) × (incoming cores banks number i ≡ k)

-- the slot of a link's place
placed : (cores banks number from k : ℕ) → 4 * from + k % 4 < incoming_count cores banks number →
    incoming_link cores banks number from ≡ k / 4 → Place cores banks number k
placed cores banks number from k few is =
    let i : ℕ = 4 * from + k % 4 in
    let row : i / 4 ≡ from = omega arith in
    let column : i % 4 ≡ k % 4 = omega arith in
    let link : incoming_link cores banks number (i / 4) ≡ k / 4 = ap (incoming_link cores banks number) row ∙ is in
    (i, few, omega (arith, link, column))

-- to a core, from the bank (l - p) / cores
core_place : (cores banks number k d : ℕ) → number < cores → k / 4 ≡ cores * banks + d → d < banks * cores →
    d % cores ≡ number → Place cores banks number k
core_place cores banks number k d lt link below is =
    let t = lt-ltb number cores lt in
    let from : ℕ = d / cores in
    let near : from < banks = div_below d cores banks (omega arith) below in
    let whole : from * cores + number ≡ d = ap (λ m. from * cores + m) (sym is) ∙ div-add-mod' d cores in
    placed cores banks number from k (rw t (omega arith)) (rw t (ap (λ m. cores * banks + m) whole ∙ sym link))

-- to a bank, from the core l / banks
bank_place : (cores banks number k : ℕ) → 0 < banks → cores ≤ number → k / 4 < cores * banks →
    cores + (k / 4) % banks ≡ number → Place cores banks number k
bank_place cores banks number k some le below is =
    let t = le-ltb number cores le in
    let from : ℕ = (k / 4) / banks in
    let near : from < cores = div_below (k / 4) banks cores some below in
    let rest : number - cores ≡ (k / 4) % banks = omega (arith, is) in
    let whole : from * banks + (number - cores) ≡ k / 4 =
    ap (λ m. from * banks + m) rest ∙ div-add-mod' (k / 4) banks in
    placed cores banks number from k (rw t (omega arith)) (rw t whole)

-- Each slot that comes in to a seat is one of its places.
module _ (cores banks number k : ℕ) (some_cores : 0 < cores) (some_banks : 0 < banks)
    (few : k < 8 * cores * banks) where
  links : k / 4 < 2 * (cores * banks)
  links = let all = mul_assoc 8 cores banks in omega arith

  found : (t : Bool) → ltb (k / 4) (cores * banks) ≡ t →
      cond t (cores + (k / 4) % banks) ((k / 4 - cores * banks) % cores) ≡ number → Place cores banks number k
  found true is to =
      bank_place cores banks number k some_banks (omega (arith, to)) (ltb-true (k / 4) (cores * banks) is) to
  found false is to =
      let p : ℕ = cores * banks in
      let far : p ≤ k / 4 = ltb-false (k / 4) p is in
      let d : ℕ = k / 4 - p in
      let turned : banks * cores ≡ p = mul_comm banks cores in
      core_place cores banks number k d (subst (λ m. m < cores) to (mod_below d cores some_cores))
      (omega (arith, far)) (omega (arith, far, turned, links)) to

pub all_come_in : (z : SetUp) (number k : ℕ) → 0 < z.config.cores → 0 < z.config.banks → k < slot_count z →
    to_of z k ≡ number → Place z.config.cores z.config.banks number k
unfolding target
all_come_in z number k cs bs few to =
    found z.config.cores z.config.banks number k cs bs few (ltb (k / 4) (z.config.cores * z.config.banks)) refl to

module _ {A : Type 0} where
  at_end : (xs : List A) (x : A) → slice_get (xs ++ x ∷ []) (length xs) ≡ Some x
  at_end [] x = refl
  at_end (y ∷ xs) x = at_end xs x

  before : (xs ys : List A) (n : ℕ) (x : A) → slice_get xs n ≡ Some x → slice_get (xs ++ ys) n ≡ Some x
  before [] ys n x is = let none = is in cc
  before (y ∷ xs) ys zero x is = is
  before (y ∷ xs) ys (suc n) x is = before xs ys n x is

module _ (cores banks number start : ℕ) where
  abbrev Looks : ℕ → List (ℕ × ℕ)
  Looks m = found_empty cores banks number start m

  abbrev look : ℕ → ℕ × ℕ
  look n = (incoming cores banks number ((start + n) % incoming_count cores banks number), 0)

  many : (m : ℕ) → length (Looks m) ≡ m
  many zero = refl
  many (suc m) = length-append (Looks m) (look m ∷ []) ∙ omega (arith, many m)

  one_more : (m n : ℕ) (t : Bool) → ltb n m ≡ t → n < suc m → (n < m → slice_get (Looks m) n ≡ Some (look n)) →
      slice_get (Looks (suc m)) n ≡ Some (look n)
  one_more m n true is lt earlier = before (Looks m) (look m ∷ []) n (look n) (earlier (ltb-true n m is))
  one_more m n false is lt earlier =
      let last : m ≡ n = (let le = ltb-false n m is in omega (arith, le, lt)) in
      subst (λ i. slice_get (Looks (suc m)) i ≡ Some (look i)) last
      (subst (λ i. slice_get (Looks (suc m)) i ≡ Some (look m)) (many m) (at_end (Looks m) (look m)))

  looked_at : (m n : ℕ) → n < m → slice_get (Looks m) n ≡ Some (look n)
  looked_at zero n lt = absurd (omega arith)
  looked_at (suc m) n lt = one_more m n (ltb n m) refl lt (looked_at m n)

-- going round, each place is come to
comes_round : (start count j : ℕ) (t : Bool) → ltb j (start % count) ≡ t → j < count →
    (n : ℕ) × (n < count) × ((start + n) % count ≡ j)
comes_round start count j true is lt =
    let r : ℕ = start % count in
    let q : ℕ = start / count in
    let small = ltb-true j r is in
    let low : r < count = mod_below start count (omega arith) in
    let whole = div-add-mod' start count in
    let more = suc-mul q count in
    let round : start + (j + (count - r)) ≡ suc q * count + j = omega (arith, whole, more, low, small) in
    (j + (count - r), omega (arith, small, low), ap (λ x. x % count) round ∙ mod-mul-add (suc q) count j lt)
comes_round start count j false is lt =
    let r : ℕ = start % count in
    let q : ℕ = start / count in
    let far = ltb-false j r is in
    let whole = div-add-mod' start count in
    let round : start + (j - r) ≡ q * count + j = omega (arith, whole, far) in
    (j - r, omega (arith, lt), ap (λ x. x % count) round ∙ mod-mul-add q count j lt)

pub all_found : (z : SetUp) (number start : ℕ) → 0 < z.config.cores → 0 < z.config.banks →
    AllFoundEmpty z number (found_empty z.config.cores z.config.banks number start
    (incoming_count z.config.cores z.config.banks number))
all_found z number start cs bs = record {
  each = λ k few to.
      let cores : ℕ = z.config.cores in
      let banks : ℕ = z.config.banks in
      let count : ℕ = incoming_count cores banks number in
      let here = all_come_in z number k cs bs few to in
      let round = comes_round start count here.0 (ltb here.0 (start % count)) refl here.1 in (
        round.0,
        looked_at cores banks number start count round.0 round.1
            ∙ ap (λ i. Some (incoming cores banks number i, 0)) round.2 ∙ ap (λ s. Some (s, 0)) here.2,
      );
}
