-- One walk along records by number finds the stale loads.
use Rattle.std.proofs.Common.{◌≡◌, ℕ, ◌+◌, ◌<◌, ◌≤◌, Bool, true, false, cond, eqb, nat_lt, ◌&&◌, List, [], ◌∷◌, ◌++◌}
use Rattle.std.proofs.Common.{length, get_or, take, drop, suc, Option, Some, refl, sym, ap, ap₂, subst, ◌∙◌, arith}
use Rattle.std.specs.Prelude.{◌||◌, count_by}
use Rattle.std.proofs.lemmas.Bool.Decides.{nat_tests}
use Rattle.std.specs.List.{list_any, AllByRecursion as Each}
use Rattle.std.specs.Ordering.{nat_cmp, eq_by_cmp}
use Rattle.std.specs.Cmp.{nat_cmp_total}
use Rattle.std.specs.FinMap.{FinMap, empty, insert, get, get-empty, get-insert}
use Rattle.std.proofs.lemmas.List.Folds.{list_any-append}
use Rattle.std.proofs.lemmas.List.Sums.{sum_by_push}
use Rattle.physiological_order.specs.declared.operation.Op.{Op}
use Rattle.physiological_order.specs.declared.operation.Op.TheVariants.{Load, Store, Swap}
use Rattle.physiological_order.specs.declared.operation.Record.{Record}
use Rattle.physiological_order.specs.StaleHits.{writes, is_stale_load, RisesByNumber}
use Rattle.physiological_order.specs.LatestWrites.{later_than, raised, latest_after, stale_by}
use Rattle.physiological_order.proofs.History.{each_weaker}
use Rattle.physiological_order.proofs.WalkSteps.{split_at, take-next}

-- some record writes the word at a later time
abbrev pub writes_later : ℕ → ℕ → List Record → Bool
writes_later a t rs = list_any (λ s. writes s.op a && nat_lt t s.ts) rs

-- the times of a map are the latest writes of records
abbrev pub Latest : FinMap nat_cmp ℕ → List Record → Type 0
Latest latest rs = (a t : ℕ) → later_than (get latest a) t ≡ writes_later a t rs

pub Latest-none : Latest empty []
Latest-none a t = ap (λ found. later_than found t) (get-empty nat_cmp a)

or_false : (b : Bool) → (b || false) ≡ b
or_false true = refl
or_false false = refl

raised_later : (o : Option ℕ) (t u : ℕ) → nat_lt t (raised o u) ≡ (later_than o t || nat_lt t u)
raised_later o t u = grind (arith, nat_tests)

same_test : (a b : ℕ) → eq_by_cmp nat_cmp a b ≡ eqb b a
same_test a b = grind (arith, nat_tests)

same_word : (a b : ℕ) → eqb a b ≡ true → b ≡ a
same_word a b e = grind (arith, nat_tests)

-- a write to b at time u, seen at the word a
after_write : (latest : FinMap nat_cmp ℕ) (a b t u : ℕ) (test : Bool) → eqb b a ≡ test →
    later_than (cond test (Some (raised (get latest b) u)) (get latest a)) t ≡ (later_than (get latest a) t
    || ((test && nat_lt t u) || false))
after_write latest a b t u test e =
    let more = raised_later (get latest b) t u in let same = same_word b a in grind (arith, nat_tests)

Latest-write : (latest : FinMap nat_cmp ℕ) (rs : List Record) (r : Record) (b : ℕ) →
    ((a : ℕ) → writes r.op a ≡ eqb b a) → Latest latest rs → Latest (insert latest b (raised (get latest b) r.ts))
    (rs ++ r ∷ [])
Latest-write latest rs r b w h a t =
    ap (λ found. later_than found t) (get-insert nat_cmp_total latest b (raised (get latest b) r.ts) a
    ∙ ap (λ test. cond test (Some (raised (get latest b) r.ts)) (get latest a)) (same_test a b))
    ∙ after_write latest a b t r.ts (eqb b a) refl
    ∙ ap₂ (λ x test. x || ((test && nat_lt t r.ts) || false)) (h a t) (sym (w a))
    ∙ sym (list_any-append (λ (s : Record). writes s.op a && nat_lt t s.ts) rs (r ∷ []))

Latest-load : (latest : FinMap nat_cmp ℕ) (rs : List Record) (r : Record) → ((a : ℕ) → writes r.op a ≡ false) →
    Latest latest rs → Latest latest (rs ++ r ∷ [])
Latest-load latest rs r w h a t =
    h a t ∙ sym (or_false (writes_later a t rs)) ∙ ap (λ test. writes_later a t rs
    || ((test && nat_lt t r.ts) || false)) (sym (w a))
    ∙ sym (list_any-append (λ (s : Record). writes s.op a && nat_lt t s.ts) rs (r ∷ []))

by_operation : (latest : FinMap nat_cmp ℕ) (rs : List Record) (r : Record) (op : Op) → r.op ≡ op → Latest latest rs →
    Latest (latest_after latest op r.ts) (rs ++ r ∷ [])
by_operation latest rs r (Load b) e h = Latest-load latest rs r (λ a. ap (λ o. writes o a) e) h
by_operation latest rs r (Store b v) e h = Latest-write latest rs r b (λ a. ap (λ o. writes o a) e) h
by_operation latest rs r (Swap b v) e h = Latest-write latest rs r b (λ a. ap (λ o. writes o a) e) h

pub Latest-push : (latest : FinMap nat_cmp ℕ) (rs : List Record) (r : Record) → Latest latest rs →
    Latest (latest_after latest r.op r.ts) (rs ++ r ∷ [])
Latest-push latest rs r h = by_operation latest rs r r.op refl h

-- of records by rising number those with a smaller number than one of them are those before it
tail_rises : (r : Record) (rs : List Record) → RisesByNumber (r ∷ rs) → RisesByNumber rs
tail_rises r [] h = tt
tail_rises r (s ∷ rs) h = h.1

above : (r : Record) (rs : List Record) → RisesByNumber (r ∷ rs) → Each (λ s. r.number < s.number) rs
above r [] h = tt
above r (s ∷ rs) h =
    (h.0, each_weaker (λ x lt. let up : r.number < s.number = h.0 in omega arith) rs (above s rs h.1))

each_behind : (P : Record → Type 0) (front : List Record) (r : Record) (back : List Record) →
    Each P (front ++ r ∷ back) → P r
each_behind P [] r back h = h.0
each_behind P (s ∷ front) r back h = each_behind P front r back h.1

before_number : (front : List Record) (r : Record) (back : List Record) → RisesByNumber (front ++ r ∷ back) →
    Each (λ s. s.number < r.number) front
before_number [] r back h = tt
before_number (s ∷ front) r back h = (
  each_behind (λ x. s.number < x.number) front r back (above s (front ++ r ∷ back) h),
  before_number front r back
      (tail_rises s (front ++ r ∷ back) h),
)

rises_behind : (front : List Record) (r : Record) (back : List Record) → RisesByNumber (front ++ r ∷ back) →
    RisesByNumber (r ∷ back)
rises_behind [] r back h = h
rises_behind (s ∷ front) r back h = rises_behind front r back (tail_rises s (front ++ r ∷ back) h)

-- the test of a load's word a, number n and time t
abbrev test : ℕ → ℕ → ℕ → Record → Bool
test a n t s = writes s.op a && (nat_lt s.number n && nat_lt t s.ts)

passes : (w : Bool) (m n t u : ℕ) → m < n → (w && (nat_lt m n && nat_lt t u)) ≡ (w && nat_lt t u)
passes w m n t u lt = grind (arith, nat_tests)

fails : (w : Bool) (m n t u : ℕ) → n ≤ m → (w && (nat_lt m n && nat_lt t u)) ≡ false
fails w m n t u le = grind (arith, nat_tests)

in_front : (a n t : ℕ) (rs : List Record) → Each (λ s. s.number < n) rs →
    list_any (test a n t) rs ≡ writes_later a t rs
in_front a n t [] h = refl
in_front a n t (r ∷ rs) h = ap₂ (λ x y. x || y) (passes (writes r.op a) r.number n t r.ts h.0) (in_front a n t rs h.1)

from_here : (a n t : ℕ) (rs : List Record) → Each (λ s. n ≤ s.number) rs → list_any (test a n t) rs ≡ false
from_here a n t [] h = refl
from_here a n t (r ∷ rs) h =
    ap₂ (λ x y. x || y) (fails (writes r.op a) r.number n t r.ts h.0) (from_here a n t rs h.1)

pub stale-at : (front : List Record) (r : Record) (back : List Record) (op : Op) (latest : FinMap nat_cmp ℕ) →
    RisesByNumber (front ++ r ∷ back) → Latest latest front → is_stale_load op (front ++ r ∷ back)
    r ≡ stale_by latest op r.ts
stale-at front r back (Load a) latest h l =
    list_any-append (test a r.number r.ts) front (r ∷ back)
    ∙ ap₂ (λ x y. x || y) (in_front a r.number r.ts front (before_number front r back h))
    (from_here a r.number r.ts (r ∷ back) (
      omega arith,
      each_weaker (λ s lt. omega arith) back
          (above r back (rises_behind front r back h)),
    ))
    ∙ or_false (writes_later a r.ts front) ∙ sym (l a r.ts)
stale-at front r back _ latest h l = refl

-- how many of the first records are stale loads among all
abbrev pub stale_among : List Record → List Record → ℕ
stale_among records rs = count_by (λ r. is_stale_load r.op records r) rs

pub stale_among-take : (records : List Record) (i : ℕ) (r : Record) (latest : FinMap nat_cmp ℕ) → i < length records →
    r ≡ get_or records i r → RisesByNumber records → Latest latest (take i records) →
    stale_among records (take (i + 1) records) ≡ stale_among records (take i records) + cond
    (stale_by latest r.op r.ts) 1 0
stale_among-take records i r latest lt is h l =
    let split = split_at records i r lt is in
    ap (stale_among records) (take-next records i r lt is)
    ∙ sum_by_push (λ (s : Record). cond (is_stale_load s.op records s) 1 0) (take i records) r
    ∙ ap (λ b. stale_among records (take i records) + cond b 1 0)
    (ap (λ rs. is_stale_load r.op rs r) split ∙ stale-at (take i records) r (drop (suc i) records) r.op latest
    (subst RisesByNumber split h) l)
