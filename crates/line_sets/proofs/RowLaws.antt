-- What rows keep when one of them is written, and when a set gets its first line.
use Rattle.std.proofs.Common.{◌≡◌, ℕ, zero, suc, ◌+◌, ◌<◌, ◌≤◌, List, [], ◌∷◌, ◌++◌, length, get_or, set}
use Rattle.std.proofs.Common.{Option, Some, None, refl, sym, ap, ◌∙◌, arith, length-set}
use Rattle.std.proofs.Common.{get_or-set_same, get_or-set_other, replicate}
use Rattle.std.proofs.lemmas.List.{ext_get_or, length_push, get_or_push, get_or_append_left, get_or_read}
use Rattle.std.proofs.lemmas.List.{length-replicate}
use Rattle.std.proofs.lemmas.Bool.{cases_eq}
use Rattle.line_sets.specs.declared.entries.Row.{Row}
use Rattle.line_sets.specs.TaggedRows.{count_none, no_row, row_at, HasRoom, IsSpread}

pub no-place : (o : Option ℕ) → ((k : ℕ) → o ≡ Some k → ⊥) → o ≡ None
no-place None h = refl
no-place (Some k) h = absurd (h k refl)

pub same-at : {A : Type 0} (n i : ℕ) (d : A) → get_or (replicate n d) i d ≡ d
same-at (suc n) (suc i) d = same-at n i d
same-at _ _ d = refl

-- a set that gets its first line is one fewer without
count-fewer : (places : List (Option ℕ)) (i n : ℕ) → i < length places → get_or places i None ≡ None →
    count_none (set places i (Some n)) + 1 ≡ count_none places
count-fewer [] i n h e = absurd (omega arith)
count-fewer (None ∷ places) zero n h e = omega arith
count-fewer (Some k ∷ places) zero n h e = cc
count-fewer (None ∷ places) (suc i) n h e = omega (arith, count-fewer places i n (omega arith) e)
count-fewer (Some k ∷ places) (suc i) n h e = count-fewer places i n (omega arith) e

-- a set that had no line, at the place that the code reads
pub record IsUnplaced (places : List (Option ℕ)) (sets : List ℕ) (i : ℕ) : Type 0 where
  pub low : i < length places
  pub none : get_or places i None ≡ None
  pub room : length sets < length places

pub unplaced : {places : List (Option ℕ)} {sets : List ℕ} {rows : List Row} {i : ℕ} {o : Option ℕ} →
    IsSpread places sets rows → i < length rows → o ≡ get_or places i o → ((k : ℕ) → o ≡ Some k → ⊥) →
    IsUnplaced places sets i
unplaced {places} {rows = rows} {i} {o} spread h read nowhere =
    let low : i < length places = omega (arith, h, spread.long) in
    let none : get_or places i None ≡ None = sym (get_or_read places i o low read None) ∙ no-place o nowhere in
    record {
      low = low;
      none = none;
      room = (let fewer = count-fewer places i 0 low none in let all = spread.counted in omega (arith, fewer, all));
    }

pub spread-more : (places : List (Option ℕ)) (sets : List ℕ) (rows : List Row) (i n : ℕ) (w : Row) →
    IsSpread places sets rows → i < length places → get_or places i None ≡ None → n ≡ length sets →
    IsSpread (set places i (Some n)) (sets ++ i ∷ []) (set rows i w)
spread-more places sets rows i n w spread h none is =
    let same : length (set places i (Some n)) ≡ length places = length-set places i (Some n) in
    let long_rows : length (set rows i w) ≡ length rows = length-set rows i w in
    let long : length (sets ++ i ∷ []) ≡ length sets + 1 = length_push sets i in
    let last = get_or_push sets i 0 n in let kept = get_or_append_left sets (i ∷ []) 0 in
    let here = get_or-set_same places i (Some n) None h in
    record {
      below = λ j k e. let at = cases_eq j i in let old = spread.below j k in
          let other = get_or-set_other places i j (Some n) None in grind arith;
      own = λ j k e. let at = cases_eq j i in let below = spread.below j k in let old = spread.own j k in
          let other = get_or-set_other places i j (Some n) None in let before = kept k in grind arith;
      there = λ k low. let at = cases_eq k n in let old = spread.there k in let before = kept k in grind arith;
      empty = λ j e. let at = cases_eq j i in let old = spread.empty j in
          let other = get_or-set_other places i j (Some n) None in
          let before = get_or-set_other rows i j w no_row in grind arith;
      long = omega (arith, long_rows, same, spread.long);
      counted = (let c = spread.counted in omega (arith, long, same, count-fewer places i n h none));
    }

all-none : (n : ℕ) → count_none (replicate n None) ≡ n
all-none zero = refl
all-none (suc n) = omega (arith, all-none n)

pub spread-empty :
    (n : ℕ) (places : List (Option ℕ)) (sets : List ℕ) (rows : List Row) → places ≡ replicate n None → sets ≡ [] →
    rows ≡ replicate n no_row → IsSpread places sets rows
spread-empty n places sets rows e f g =
    let nowhere : (i : ℕ) → get_or places i None ≡ None = λ i. ap (λ ps. get_or ps i None) e ∙ same-at n i None in
    let long : length places ≡ n = ap length e ∙ length-replicate {A = Option ℕ} n None in
    let no_sets : length sets ≡ 0 = ap length f in
    record {
      below = λ i k h. let none = nowhere i in cc;
      own = λ i k h. let none = nowhere i in cc;
      there = λ k h. absurd (omega (arith, h, no_sets));
      empty = λ i h. ap (λ us. row_at us i) g ∙ same-at n i no_row;
      long = ap length g ∙ length-replicate {A = Row} n no_row ∙ sym long;
      counted = (let b = ap count_none e ∙ all-none n in omega (arith, long, no_sets));
    }

-- the first of the sets that had a line have none: what is left was there before
pub record IsHalfway (at : ℕ) (old new : List (Option ℕ)) (rows : List Row) : Type 0 where
  pub many : length new ≡ length old
  pub long : length rows ≡ length old
  pub left : (i k : ℕ) → get_or new i None ≡ Some k → (at ≤ k) × (get_or old i None ≡ Some k)
  pub empty : (i : ℕ) → get_or new i None ≡ None → row_at rows i ≡ no_row

pub record IsAllEmpty (n : ℕ) (places : List (Option ℕ)) (rows : List Row) : Type 0 where
  pub of_places : places ≡ replicate n None
  pub of_rows : rows ≡ replicate n no_row

pub halfway-last : {old new : List (Option ℕ)} {sets : List ℕ} {all rows : List Row} {at : ℕ} → IsSpread old sets all →
    IsHalfway at old new rows → length sets ≤ at → IsAllEmpty (length old) new rows
halfway-last {old} {new} {sets} {all} {rows} {at} spread half past =
    let none : (i : ℕ) → get_or new i None ≡ None = λ i. no-place (get_or new i None) (λ k e.
    (let was = half.left i k e in let b = spread.below i k was.1 in let from = was.0 in
    omega (arith, from, b, past))) in
    record {
      of_places = ext_get_or None new (replicate (length old) None)
          (half.many ∙ sym (length-replicate {A = Option ℕ} (length old) None))
          (λ i low. none i ∙ sym (same-at (length old) i None));
      of_rows = ext_get_or no_row rows (replicate (length old) no_row)
          (half.long ∙ sym (length-replicate {A = Row} (length old) no_row))
          (λ i low. half.empty i (none i) ∙ sym (same-at (length old) i no_row));
    }

pub room-same : (old new : List (Option ℕ)) (sets : ℕ) → length new ≡ length old → HasRoom old sets →
    HasRoom new sets
room-same old new sets same room = omega (arith, same, room)
