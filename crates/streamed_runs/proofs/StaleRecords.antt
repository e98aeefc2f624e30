-- The stale loads of records by rising number, told one record after the other.
-- (The lemmas of physiological_order/proofs/Latest.antt tell the same of a list that is there at once. That crate's
-- Lemmas doesn't give them, and an export there has all crates above proved anew.)
use Rattle.std.proofs.Common.{◌≡◌, ℕ, ◌+◌, ◌<◌, ◌≤◌, Bool, true, false, cond, eqb, nat_lt, ◌&&◌, List, [], ◌∷◌, ◌++◌}
use Rattle.std.proofs.Common.{Option, Some, refl, sym, ap, ap₂, ◌∙◌, arith}
use Rattle.std.specs.Prelude.{◌||◌, count_by}
use Rattle.std.proofs.lemmas.Bool.Decides.{nat_tests}
use Rattle.std.specs.List.{list_any, AllByRecursion as Each}
use Rattle.std.specs.Ordering.{nat_cmp, eq_by_cmp}
use Rattle.std.specs.Cmp.{nat_cmp_total}
use Rattle.std.specs.FinMap.{FinMap, empty, insert, get, get-empty, get-insert}
use Rattle.std.proofs.lemmas.List.Folds.{list_any-append}
use Rattle.std.proofs.lemmas.List.Sums.{sum_by-cons, sum_by_push}
use Rattle.physiological_order.specs.declared.operation.Op.{Op}
use Rattle.physiological_order.specs.declared.operation.Op.TheVariants.{Load, Store, Swap}
use Rattle.physiological_order.specs.declared.operation.Record.{Record}
use Rattle.physiological_order.specs.StaleHits.{writes, is_stale_load, stale_count, RisesByNumber}
use Rattle.physiological_order.specs.LatestWrites.{later_than, raised, latest_after, stale_by}
use Rattle.streamed_runs.specs.Summaries.{latest_behind}

-- some record writes the word at a later time
abbrev writes_later : ℕ → ℕ → List Record → Bool
writes_later a t rs = list_any (λ s. writes s.op a && nat_lt t s.ts) rs

or_false : (b : Bool) → (b || false) ≡ b
or_false b = grind arith

same_test : (a b : ℕ) → eq_by_cmp nat_cmp a b ≡ eqb b a
same_test a b = grind (arith, nat_tests)

same_word : (a b : ℕ) → eqb b a ≡ true → b ≡ a
same_word a b e = grind (arith, nat_tests)

raised_later : (o : Option ℕ) (t u : ℕ) → nat_lt t (raised o u) ≡ (later_than o t || nat_lt t u)
raised_later o t u = grind (arith, nat_tests)

-- a write to b at time u, seen at the word a
after_write : (latest : FinMap nat_cmp ℕ) (a b t u : ℕ) (test : Bool) → eqb b a ≡ test →
    later_than (cond test (Some (raised (get latest b) u)) (get latest a)) t ≡ (later_than (get latest a) t
    || (test && nat_lt t u))
after_write latest a b t u test e =
    let more = raised_later (get latest b) t u in let same = same_word a b in grind (arith, nat_tests)

written : (latest : FinMap nat_cmp ℕ) (a b t u : ℕ) →
    later_than (get (insert latest b (raised (get latest b) u)) a) t ≡ (later_than (get latest a) t
    || (eqb b a && nat_lt t u))
written latest a b t u =
    ap (λ found. later_than found t) (get-insert nat_cmp_total latest b (raised (get latest b) u) a
    ∙ ap (λ test. cond test (Some (raised (get latest b) u)) (get latest a)) (same_test a b))
    ∙ after_write latest a b t u (eqb b a) refl

later_after : (latest : FinMap nat_cmp ℕ) (op : Op) (a t u : ℕ) →
    later_than (get (latest_after latest op u) a) t ≡ (later_than (get latest a) t || (writes op a && nat_lt t u))
later_after latest (Load b) a t u = sym (or_false (later_than (get latest a) t))
later_after latest (Store b v) a t u = written latest a b t u
later_after latest (Swap b v) a t u = written latest a b t u

or_assoc : (a b c : Bool) → ((a || b) || c) ≡ (a || (b || c))
or_assoc a b c = grind arith

later_behind : (latest : FinMap nat_cmp ℕ) (rs : List Record) (a t : ℕ) →
    later_than (get (latest_behind latest rs) a) t ≡ (later_than (get latest a) t || writes_later a t rs)
later_behind latest [] a t = sym (or_false (later_than (get latest a) t))
later_behind latest (r ∷ rs) a t =
    later_behind (latest_after latest r.op r.ts) rs a t
    ∙ ap (λ b. b || writes_later a t rs) (later_after latest r.op a t r.ts)
    ∙ or_assoc (later_than (get latest a) t) (writes r.op a && nat_lt t r.ts) (writes_later a t rs)

pub behind_one : (latest : FinMap nat_cmp ℕ) (rs : List Record) (r : Record) →
    latest_behind latest (rs ++ r ∷ []) ≡ latest_after (latest_behind latest rs) r.op r.ts
behind_one latest [] r = refl
behind_one latest (s ∷ rs) r = behind_one (latest_after latest s.op s.ts) rs r

-- where the numbers rise, those before the last record are below its
pub front_rises : (rs more : List Record) → RisesByNumber (rs ++ more) → RisesByNumber rs
front_rises [] more h = tt
front_rises (r ∷ []) more h = tt
front_rises (r ∷ s ∷ rs) more h = (h.0, front_rises (s ∷ rs) more h.1)

below_last : (rs : List Record) (r : Record) → RisesByNumber (rs ++ r ∷ []) → Each (λ s. s.number < r.number) rs
below_last [] r h = tt
below_last (s ∷ []) r h = (h.0, tt)
below_last (s ∷ next ∷ rs) r h =
    let more = below_last (next ∷ rs) r h.1 in (omega (arith, h.0, more.0), more)

-- the test of a load's word a, number n and time t
abbrev test : ℕ → ℕ → ℕ → Record → Bool
test a n t s = writes s.op a && (nat_lt s.number n && nat_lt t s.ts)

one_test : (w : Bool) (m n t u : ℕ) (b : Bool) → m < n → ((w && (nat_lt m n && nat_lt t u)) || b) ≡ ((w && nat_lt t u)
    || b)
one_test w m n t u b lt = grind (arith, nat_tests)

in_front : (a n t : ℕ) (rs : List Record) → Each (λ s. s.number < n) rs →
    list_any (test a n t) rs ≡ writes_later a t rs
in_front a n t [] h = refl
in_front a n t (r ∷ rs) h =
    one_test (writes r.op a) r.number n t r.ts (list_any (test a n t) rs) h.0
    ∙ ap (λ b. (writes r.op a && nat_lt t r.ts) || b) (in_front a n t rs h.1)

not_behind : (b w x : Bool) (m n : ℕ) → n ≤ m → (b || ((w && (nat_lt m n && x)) || false)) ≡ b
not_behind b w x m n le = grind (arith, nat_tests)

-- a record of a greater number makes no load stale, and its own load is stale by the latest times
module _ (rs : List Record) (r : Record) where
  earlier_same : (op : Op) (s : Record) → s.number < r.number →
      is_stale_load op (rs ++ r ∷ []) s ≡ is_stale_load op rs s
  earlier_same (Load a) s below =
      list_any-append (test a s.number s.ts) rs (r ∷ [])
      ∙ not_behind (list_any (test a s.number s.ts) rs) (writes r.op a) (nat_lt s.ts r.ts) r.number s.number
      (omega (arith, below))
  earlier_same (Store a v) s below = refl
  earlier_same (Swap a v) s below = refl

  earlier_count : (some : List Record) → Each (λ s. s.number < r.number) some →
      count_by (λ s. is_stale_load s.op (rs ++ r ∷ []) s) some ≡ count_by (λ s. is_stale_load s.op rs s) some
  earlier_count [] h = refl
  earlier_count (s ∷ some) h =
      sum_by-cons (λ (s : Record). cond (is_stale_load s.op (rs ++ r ∷ []) s) 1 0) s some
      ∙ ap₂ (λ (is : Bool) (n : ℕ). cond is 1 0 + n) (earlier_same s.op s h.0) (earlier_count some h.1)
      ∙ sym (sum_by-cons (λ (s : Record). cond (is_stale_load s.op rs s) 1 0) s some)

  last_stale : (op : Op) → Each (λ s. s.number < r.number) rs →
      is_stale_load op (rs ++ r ∷ []) r ≡ stale_by (latest_behind empty rs) op r.ts
  last_stale (Load a) h =
      list_any-append (test a r.number r.ts) rs (r ∷ [])
      ∙ not_behind (list_any (test a r.number r.ts) rs) (writes r.op a) (nat_lt r.ts r.ts) r.number r.number
      (omega arith)
      ∙ in_front a r.number r.ts rs h
      ∙ ap (λ o. later_than o r.ts || writes_later a r.ts rs) (sym (get-empty nat_cmp a))
      ∙ sym (later_behind empty rs a r.ts)
  last_stale (Store a v) h = refl
  last_stale (Swap a v) h = refl

  pub stale_push : RisesByNumber (rs ++ r ∷ []) →
      stale_count (rs ++ r ∷ []) ≡ stale_count rs + cond (stale_by (latest_behind empty rs) r.op r.ts) 1 0
  stale_push rises =
      let below = below_last rs r rises in
      sum_by_push (λ (s : Record). cond (is_stale_load s.op (rs ++ r ∷ []) s) 1 0) rs r
      ∙ ap₂ (λ (n : ℕ) (is : Bool). n + cond is 1 0) (earlier_count rs below) (last_stale r.op below)
