-- Rising lists that a number is put into or taken out of, by index and by how often each number is there.
use Rattle.std.proofs.Common.{◌≡◌, ◌≢◌, ℕ, zero, suc, ◌+◌, ◌-◌, ◌*◌, ◌<◌, ◌≤◌, true, false, cond, eqb, leb, ltb, List}
use Rattle.std.proofs.Common.{[], ◌∷◌, not, Bool, length, get_or, inl, inr, Option, None, Some, refl, sym}
use Rattle.std.proofs.Common.{ap}
use Rattle.std.proofs.Common.{◌∙◌, arith}
use Rattle.std.specs.Option.{is_some}
use Rattle.std.specs.List.{insert, prefix_len, remove, slice_get}
use Rattle.std.specs.List.Sorted.{IsNonDecreasing, IsPartitionPoint}
use Rattle.std.proofs.lemmas.Bool.{cases_eq, cases_lt, cond_both, eq-eqb, le-leb, lt-ltb, ltb-true}
use Rattle.std.proofs.lemmas.Bool.{ltb-false, ne_eqb}
use Rattle.std.proofs.lemmas.List.Sums.{prefix_len_is}
use Rattle.ranked_lines.specs.Rising.{all_but, is_but, put_in, room_of, sorted, take_out, tally, AllFrom, HasRoom}
use Rattle.ranked_lines.specs.Rising.{IsExchanged, IsOrderOf, Rises}
use Rattle.ranked_lines.proofs.SortedLists.{length-sorted, one-sorted, rises-put_in, rises-sorted, tally-none}
use Rattle.ranked_lines.proofs.SortedLists.{tally-put_in, tally-sorted}

-- what rises doesn't decrease
from-at : (x : ℕ) (ys : List ℕ) (j d : ℕ) → AllFrom x ys → j < length ys → x ≤ get_or ys j d
from-at x [] j d h lt = absurd (omega (arith, lt))
from-at x (y ∷ ys) zero d h lt = h.0
from-at x (y ∷ ys) (suc j) d h lt = from-at x ys j d h.1 (omega (arith, lt))

pub ordered : (ys : List ℕ) → Rises ys → IsNonDecreasing ys
ordered [] h i j d le lt = absurd (omega (arith, lt))
ordered (y ∷ ys) h zero zero d le lt = omega arith
ordered (y ∷ ys) h zero (suc j) d le lt = from-at y ys j d h.0 (omega (arith, lt))
ordered (y ∷ ys) h (suc i) zero d le lt = absurd (omega (arith, le))
ordered (y ∷ ys) h (suc i) (suc j) d le lt = ordered ys h.1 i j d (omega (arith, le)) (omega (arith, lt))

-- how many pass from the front on, by a search
pub searched-to : (p : ℕ → Bool) (xs : List ℕ) (i : ℕ) → i ≤ length xs →
    IsPartitionPoint (λ y. p y ≡ true) (λ y. p y ≡ false) xs i → i ≡ prefix_len p xs
searched-to p xs i le point =
    sym (prefix_len_is p xs i 0 le (λ k lt. point.0 k 0 (omega arith) lt) (λ lt. point.1 i 0 (omega arith) lt))

-- how many numbers from the front on are below one, or at most that
abbrev pub less : ℕ → List ℕ → ℕ
less b ys = prefix_len (λ y. ltb y b) ys

abbrev pub most : ℕ → List ℕ → ℕ
most b ys = prefix_len (λ y. leb y b) ys

pub ge-ltb : (y x : ℕ) → x ≤ y → ltb y x ≡ false
ge-ltb y x le = grind arith

pub gt-leb : (y x : ℕ) → x < y → leb y x ≡ false
gt-leb y x lt = grind arith

pub less-more : (b y : ℕ) (ys : List ℕ) → y < b → less b (y ∷ ys) ≡ suc (less b ys)
less-more b y ys lt = ap (λ t. cond t (1 + less b ys) 0) (lt-ltb y b lt) ∙ omega arith

pub less-none : (b y : ℕ) (ys : List ℕ) → b ≤ y → less b (y ∷ ys) ≡ 0
less-none b y ys le = ap (λ t. cond t (1 + less b ys) 0) (ge-ltb y b le)

pub most-more : (b y : ℕ) (ys : List ℕ) → y ≤ b → most b (y ∷ ys) ≡ suc (most b ys)
most-more b y ys le = ap (λ t. cond t (1 + most b ys) 0) (le-leb y b le) ∙ omega arith

pub most-none : (b y : ℕ) (ys : List ℕ) → b < y → most b (y ∷ ys) ≡ 0
most-none b y ys lt = ap (λ t. cond t (1 + most b ys) 0) (gt-leb y b lt)

pub less-most : (b : ℕ) (ys : List ℕ) → less b ys ≤ most b ys
less-most b [] = omega arith
less-most b (y ∷ ys) = let later = less-most b ys in grind arith

-- at most a number is below the next one
pub less-next : (b : ℕ) (ys : List ℕ) → less (b + 1) ys ≡ most b ys
less-next b [] = refl
less-next b (y ∷ ys) = let later = less-next b ys in grind arith

-- the number at an index is below one exactly where so many are
pub at-less : (b : ℕ) (ys : List ℕ) (at d : ℕ) → Rises ys → at < length ys → get_or ys at d < b → at < less b ys
at-less b [] at d r in_list lt = absurd (omega (arith, in_list))
at-less b (y ∷ ys) zero d r in_list lt = grind arith
at-less b (y ∷ ys) (suc k) d r in_list lt =
    let first = from-at y ys k d r.0 (omega (arith, in_list)) in
    let later = at-less b ys k d r.1 (omega (arith, in_list)) lt in grind arith

pub at-from : (b : ℕ) (ys : List ℕ) (at d : ℕ) → at < length ys → b ≤ get_or ys at d → less b ys ≤ at
at-from b [] at d in_list le = omega arith
at-from b (y ∷ ys) zero d in_list le = grind arith
at-from b (y ∷ ys) (suc k) d in_list le = let later = at-from b ys k d (omega (arith, in_list)) le in grind arith

-- a number is put in before the first that isn't below it, or that one is taken out

pub inserted : (x : ℕ) (ys : List ℕ) → insert ys (less x ys) x ≡ put_in x ys
inserted x [] = refl
inserted x (y ∷ ys) = let later = inserted x ys in let more = less-more x y ys in
    let none = less-none x y ys in grind arith

pub removed : (x : ℕ) (ys : List ℕ) → remove ys (less x ys) ≡ take_out x ys
removed x [] = refl
removed x (y ∷ ys) = let later = removed x ys in let more = less-more x y ys in
    let none = less-none x y ys in grind arith

pub none-removed : (x : ℕ) (ys : List ℕ) → length ys ≤ less x ys → ys ≡ take_out x ys
none-removed x [] le = refl
none-removed x (y ∷ ys) le = let later = none-removed x ys in grind arith

-- what is left rises
from-take_out : (b x : ℕ) (ys : List ℕ) → AllFrom b ys → AllFrom b (take_out x ys)
from-take_out b x [] h = tt
from-take_out b x (y ∷ ys) h = let later = from-take_out b x ys h.1 in grind arith

pub rises-take_out : (x : ℕ) (ys : List ℕ) → Rises ys → Rises (take_out x ys)
rises-take_out x [] h = tt
rises-take_out x (y ∷ ys) h =
    let low = from-take_out y x ys h.0 in let later = rises-take_out x ys h.1 in grind arith

-- a number that is there is taken out once
tally-take_out : (c x : ℕ) (ys : List ℕ) → Rises ys → 1 ≤ tally x ys →
    tally c (take_out x ys) + cond (eqb x c) 1 0 ≡ tally c ys
tally-take_out c x [] r there = absurd (omega (arith, there))
tally-take_out c x (y ∷ ys) r there = let none = tally-none x ys y in
    let later = tally-take_out c x ys r.1 in grind arith

-- a list that is kept in order, after an exchange
pub order-same : (line n : ℕ) (xs zs ys : List ℕ) → ys ≡ sorted xs → IsExchanged line n n xs zs → ys ≡ sorted zs
order-same line n xs zs ys e h = e ∙ one-sorted (sorted xs) (sorted zs) (rises-sorted xs) (rises-sorted zs) (λ c.
    (let first = tally-sorted c xs in let second = tally-sorted c zs in let both = h c in
    omega (arith, first, second, both)))

pub order-entered : (line : ℕ) (xs zs ys : List ℕ) → ys ≡ sorted xs → IsExchanged line 0 1 xs zs →
    put_in line ys ≡ sorted zs
order-entered line xs zs ys e h = ap (put_in line) e
    ∙ one-sorted (put_in line (sorted xs)) (sorted zs) (rises-put_in line (sorted xs) (rises-sorted xs))
    (rises-sorted zs)
    (λ c. (let first = tally-sorted c xs in let second = tally-sorted c zs in let both = h c in
    let put = tally-put_in c line (sorted xs) in grind arith))

pub order-left : (line : ℕ) (xs zs ys : List ℕ) → ys ≡ sorted xs → IsExchanged line 1 0 xs zs →
    take_out line ys ≡ sorted zs
order-left line xs zs ys e h = ap (take_out line) e
    ∙ one-sorted (take_out line (sorted xs)) (sorted zs) (rises-take_out line (sorted xs) (rises-sorted xs))
    (rises-sorted zs)
    (λ c. (let first = tally-sorted c xs in let second = tally-sorted c zs in let both = h c in
    let same = h line in let at = tally-sorted line xs in
    let taken = tally-take_out c line (sorted xs) (rises-sorted xs) (grind (arith, same, at)) in grind arith))

pub order-kept : (o : Option (List ℕ × ℕ)) (line n m : ℕ) (xs zs : List ℕ) → n ≡ m → IsOrderOf o xs →
    IsExchanged line n m xs zs → IsOrderOf o zs
order-kept None line n m xs zs e h f = tt
order-kept (Some kept) line n m xs zs e h f = order-same line m xs zs kept.0 h (rw e at f)

order-more : (line n m : ℕ) (xs zs ys : List ℕ) → n ≢ m → n ≤ m → m ≤ 1 → ys ≡ sorted xs →
    IsExchanged line n m xs zs → put_in line ys ≡ sorted zs
order-more line n m xs zs ys ne le one h f =
    let low : n ≡ 0 = omega (arith, ne, le, one) in let high : m ≡ 1 = omega (arith, ne, le, one) in
    order-entered line xs zs ys h (rw high at (rw low at f))

order-fewer : (line n m : ℕ) (xs zs ys : List ℕ) → m < n → n ≤ 1 → ys ≡ sorted xs →
    IsExchanged line n m xs zs → take_out line ys ≡ sorted zs
order-fewer line n m xs zs ys lt one h f =
    let low : m ≡ 0 = omega (arith, lt, one) in let high : n ≡ 1 = omega (arith, lt, one) in
    order-left line xs zs ys h (rw high at (rw low at f))

-- a rising list but one number
from-all_but : (b : ℕ) (but : Option ℕ) (ys : List ℕ) → AllFrom b ys → AllFrom b (all_but but ys)
from-all_but b but [] h = tt
from-all_but b but (y ∷ ys) h = let later = from-all_but b but ys h.1 in grind arith

rises-all_but : (but : Option ℕ) (ys : List ℕ) → Rises ys → Rises (all_but but ys)
rises-all_but but [] h = tt
rises-all_but but (y ∷ ys) h =
    let low = from-all_but y but ys h.0 in let later = rises-all_but but ys h.1 in grind arith

tally-all_but : (c : ℕ) (but : Option ℕ) (ys : List ℕ) →
    tally c (all_but but ys) ≡ cond (not (is_but but c)) (tally c ys) 0
tally-all_but c but [] = grind arith
tally-all_but c but (y ∷ ys) = let later = tally-all_but c but ys in grind arith

pub sorted-all_but : (but : Option ℕ) (xs : List ℕ) → sorted (all_but but xs) ≡ all_but but (sorted xs)
sorted-all_but but xs =
    one-sorted (sorted (all_but but xs)) (all_but but (sorted xs)) (rises-sorted (all_but but xs))
    (rises-all_but but (sorted xs) (rises-sorted xs)) (λ c.
    tally-sorted c (all_but but xs) ∙ tally-all_but c but xs
    ∙ ap (λ n. cond (not (is_but but c)) n 0) (sym (tally-sorted c xs)) ∙ sym (tally-all_but c but (sorted xs)))

-- where the number stands that comes after so many others but that one
pub all_but-above : (b x : ℕ) (ys : List ℕ) → b < x → AllFrom x ys → all_but (Some b) ys ≡ ys
all_but-above b x [] lt h = refl
all_but-above b x (y ∷ ys) lt h = let later = all_but-above b x ys lt h.1 in grind arith

pub none-below : (b : ℕ) (ys : List ℕ) → AllFrom b ys → prefix_len (λ y. ltb y b) ys ≡ 0
none-below b [] h = refl
none-below b (y ∷ ys) h = grind arith

pub but-kept : (b y : ℕ) (ys : List ℕ) → b ≢ y → all_but (Some b) (y ∷ ys) ≡ y ∷ all_but (Some b) ys
but-kept b y ys ne = ap (λ t. cond (not t) (y ∷ all_but (Some b) ys) (all_but (Some b) ys)) (ne_eqb b y ne)

pub but-gone : (b y : ℕ) (ys : List ℕ) → b ≡ y → all_but (Some b) (y ∷ ys) ≡ all_but (Some b) ys
but-gone b y ys e = ap (λ t. cond (not t) (y ∷ all_but (Some b) ys) (all_but (Some b) ys)) (eq-eqb b y e)

pub before-but : (b : ℕ) (ys : List ℕ) (at : ℕ) → at < less b ys →
    slice_get ys at ≡ slice_get (all_but (Some b) ys) at
before-but b [] at lt = absurd (omega (arith, lt))
before-but b (y ∷ ys) zero lt = grind arith
before-but b (y ∷ ys) (suc k) lt = let later = before-but b ys k in grind arith

pub from-but : (b : ℕ) (ys : List ℕ) (at : ℕ) → Rises ys → less b ys ≤ at →
    slice_get ys (at + (most b ys - less b ys)) ≡ slice_get (all_but (Some b) ys) at
from-but b [] at r le = refl
from-but b (y ∷ ys) at r le = elim (cases_lt y b) [
  | inl lt ↦
      let low = less-more b y ys lt in let high = most-more b y ys (omega (arith, lt)) in
      go at (λ i. from-but b ys i r.1) (omega (arith, le, low)) low high
      ∙ sym (ap (λ zs. slice_get zs at) (but-kept b y ys (λ e. absurd (omega (arith, e, lt)))))
  | inr ge ↦ elim (cases_eq b y) [
    | inl e ↦
        let low = less-none b y ys ge in let high = most-more b y ys (omega (arith, e)) in
        let none = none-below b ys (rw (sym e) at r.0) in
        let same : at + (most b (y ∷ ys) - less b (y ∷ ys)) ≡ suc (at + (most b ys - less b ys)) =
        omega (arith, low, high, none) in
        ap (λ k. slice_get (y ∷ ys) k) same ∙ from-but b ys at r.1 (omega (arith, none))
        ∙ sym (ap (λ zs. slice_get zs at) (but-gone b y ys e))
    | inr ne ↦
        let lt : b < y = omega (arith, ge, ne) in
        let low = less-none b y ys ge in let high = most-none b y ys lt in
        let same : at + (most b (y ∷ ys) - less b (y ∷ ys)) ≡ at = omega (arith, low, high) in
        ap (λ k. slice_get (y ∷ ys) k) same
        ∙ sym (ap (λ zs. slice_get (y ∷ zs) at) (all_but-above b y ys lt r.0))
        ∙ sym (ap (λ zs. slice_get zs at) (but-kept b y ys ne))
  ]
]
  where
    go : (k : ℕ) → ((i : ℕ) → less b ys ≤ i →
        slice_get ys (i + (most b ys - less b ys)) ≡ slice_get (all_but (Some b) ys) i) →
        suc (less b ys) ≤ k → less b (y ∷ ys) ≡ suc (less b ys) → most b (y ∷ ys) ≡ suc (most b ys) →
        slice_get (y ∷ ys) (k + (most b (y ∷ ys) - less b (y ∷ ys))) ≡ slice_get (y ∷ all_but (Some b) ys) k
    go zero later h f g = absurd (omega (arith, h))
    go (suc k) later h f g =
        let same : suc k + (most b (y ∷ ys) - less b (y ∷ ys)) ≡ suc (k + (most b ys - less b ys)) =
        omega (arith, f, g) in
        ap (λ n. slice_get (y ∷ ys) n) same ∙ later k (omega (arith, h))

-- what is kept of a list
module _ (o : Option (List ℕ × ℕ)) (kept : List ℕ × ℕ) (xs : List ℕ) (e : o ≡ Some kept) (h : IsOrderOf o xs) where
  order-some : kept.0 ≡ sorted xs
  order-some = rw e at h

  pub order-exchanged : (line n m : ℕ) (zs : List ℕ) → n ≢ m → n ≤ 1 → m ≤ 1 → IsExchanged line n m xs zs →
      cond (ltb m n) (take_out line kept.0) (put_in line kept.0) ≡ sorted zs
  order-exchanged line n m zs ne before after f =
      cond_both (ltb m n) (take_out line kept.0) (put_in line kept.0) (λ us. us ≡ sorted zs)
      (λ t. order-fewer line n m xs zs kept.0 (ltb-true m n t) before order-some f)
      (λ t. let le = ltb-false m n t in order-more line n m xs zs kept.0 ne le after order-some f)

  -- a line that comes has room
  pub room-left : (n m : ℕ) → n ≢ m → (n < m → HasRoom (length xs) (room_of o)) → ltb m n ≡ false →
      length kept.0 + 32 < kept.1 * 32
  room-left n m ne room comes =
      let lt : n < m = (let le = ltb-false m n comes in omega (arith, le, ne)) in
      let long = ap length order-some ∙ length-sorted xs in
      let wide : length xs + 32 < kept.1 * 32 = rw e at (room lt) in omega (arith, long, wide)

  -- the number that is looked up
  pub looked-at : (but : Option ℕ) (at : ℕ) → slice_get (all_but but kept.0) at
      ≡ cond (is_some o) (slice_get (sorted (all_but but xs)) at) None
  looked-at but at =
      ap (λ zs. slice_get zs at) (ap (all_but but) order-some ∙ sym (sorted-all_but but xs))
      ∙ ap (λ p. cond (is_some p) (slice_get (sorted (all_but but xs)) at) None) (sym e)

pub if-true : (b : Bool) (zs us vs : List ℕ) → b ≡ true → zs ≡ cond b us vs → zs ≡ us
if-true b zs us vs t e = rw t at e
