-- Records arranged one after another: their members, order, program orders and numbers.
use Rattle.std.proofs.Common.{◌≡◌, ℕ, ◌+◌, ◌<◌, ◌≤◌, ◌≢◌, cond, leb, eqb, List, [], ◌∷◌, ◌++◌, length, Some, inl, refl}
use Rattle.std.proofs.Common.{ap, ◌∙◌, subst, arith, length-append, count_by, slice_get, ◌==◌, IsPermutation}
use Rattle.std.proofs.Math.ListN.{get_or-append}
use Rattle.std.proofs.lemmas.Option.{slice_get_within, slice_get-get_or, get_or_from_slice_get}
use Rattle.std.specs.List.{AllByRecursion as Each}
use Rattle.std.proofs.lemmas.List.Sorted.{IsPermutation-refl, IsPermutation-cons, IsPermutation-trans}
use Rattle.std.proofs.lemmas.List.Sorted.{IsPermutation-to_front}
use Rattle.std.proofs.lemmas.List.Sums.{sum_by-cons, sum_by_push}
use Rattle.std.proofs.lemmas.Bool.{cond_both, leb-true, leb-false, cond-false, ne_eqb}
use Rattle.physiological_order.specs.declared.operation.Op.{Op}
use Rattle.physiological_order.specs.declared.operation.Record.{Record}
use Rattle.physiological_order.specs.Order.{Before, Rises, Follows, of_core}
use Rattle.physiological_order.specs.Completion.{placed, arranged_from, arranged, Ascends}
use Rattle.physiological_order.proofs.History.{Sorted, apart, each_weaker, each_placed}
use Rattle.physiological_order.proofs.PickedRecords.{each_append, two_heads}
use Rattle.std.proofs.lemmas.Bool.Decides.{nat_tests}
use Rattle.std.proofs.lemmas.List.{length_push}

pub arranged_from-push : (start : List Record) (rs : List Record) (r : Record) → arranged_from start (rs ++ r ∷ []) ≡
    placed r (arranged_from start rs)
arranged_from-push start [] r = refl
arranged_from-push start (s ∷ ss) r = arranged_from-push (placed s start) ss r

pub arranged-push : (rs : List Record) (r : Record) → arranged (rs ++ r ∷ []) ≡ placed r (arranged rs)
arranged-push rs r = arranged_from-push [] rs r

each_arranged_from : (P : Record → Type 0) (start rs : List Record) → Each P start → Each P rs →
    Each P (arranged_from start rs)
each_arranged_from P start [] h k = h
each_arranged_from P start (r ∷ rs) h k = each_arranged_from P (placed r start) rs (each_placed P r start k.0 h) k.1

pub each_arranged : (P : Record → Type 0) (rs : List Record) → Each P rs → Each P (arranged rs)
each_arranged P rs h = each_arranged_from P [] rs tt h

pub each_push : (P : Record → Type 0) (rs : List Record) (r : Record) → Each P rs → P r → Each P (rs ++ r ∷ [])
each_push P rs r h p = each_append P rs (r ∷ []) h (p, tt)

pub IsPermutation-placed : (r : Record) (rs : List Record) → IsPermutation (r ∷ rs) (placed r rs)
IsPermutation-placed r [] = IsPermutation-refl (r ∷ [])
IsPermutation-placed r (s ∷ ss) =
    cond_both (leb s.ts r.ts) (s ∷ placed r ss) (r ∷ s ∷ ss) (λ xs. IsPermutation (r ∷ s ∷ ss) xs)
    (λ e. IsPermutation-trans (r ∷ s ∷ ss) (s ∷ r ∷ ss) (s ∷ placed r ss) (two_heads r s ss)
    (IsPermutation-cons s (r ∷ ss) (placed r ss) (IsPermutation-placed r ss)))
    (λ e. IsPermutation-refl (r ∷ s ∷ ss))

pub IsPermutation-push_placed : (rs ss : List Record) (r : Record) → IsPermutation rs ss →
    IsPermutation (rs ++ r ∷ []) (placed r ss)
IsPermutation-push_placed rs ss r h =
    IsPermutation-trans (rs ++ r ∷ []) (r ∷ rs) (placed r ss) (IsPermutation-to_front rs r)
    (IsPermutation-trans (r ∷ rs) (r ∷ ss) (placed r ss) (IsPermutation-cons r rs ss h) (IsPermutation-placed r ss))

before_times : (r s : Record) → Before r s → r.ts ≤ s.ts
before_times r s h = grind arith

pub Sorted-from_Ascends : (rs : List Record) → Ascends rs → Sorted rs
Sorted-from_Ascends [] h = tt
Sorted-from_Ascends (r ∷ rs) h = (each_weaker (before_times r) rs h.0, Sorted-from_Ascends rs h.1)

pub Rises-from_Ascends : (rs : List Record) → Ascends rs → Rises rs
Rises-from_Ascends (r ∷ s ∷ ss) h = (h.0.0, Rises-from_Ascends (s ∷ ss) h.1)
Rises-from_Ascends _ h = tt

-- s before r, as its time is no later and its number smaller
joins : (s r : Record) → s.ts ≤ r.ts → s.number < r.number → Before s r
joins s r le lt = grind arith

later : (r : Record) (s x : Record) → r.ts < s.ts → Before s x → Before r x
later r s x lt h = grind arith

pub Ascends-placed : (r : Record) (rs : List Record) → Ascends rs → Each (λ s. s.number < r.number) rs →
    Ascends (placed r rs)
Ascends-placed r [] h n = (tt, tt)
Ascends-placed r (s ∷ ss) h n =
    cond_both (leb s.ts r.ts) (s ∷ placed r ss) (r ∷ s ∷ ss) Ascends
    (λ e. (
      each_placed (λ x. Before s x) r ss (joins s r (leb-true s.ts r.ts e) n.0) h.0,
      Ascends-placed r ss h.1 n.1,
    ))
    (λ e. let lt = leb-false s.ts r.ts e in ((inl lt, each_weaker (λ x k. later r s x lt k) ss h.0), h))

-- a core's records
of_core_none : (c : ℕ) (rs : List Record) → Each (λ s. s.core ≢ c) rs → of_core c rs ≡ []
of_core_none c [] h = refl
of_core_none c (r ∷ rs) h = cond-false (eqb r.core c) (r ∷ of_core c rs) (of_core c rs) (ne_eqb r.core c h.0)
    ∙ of_core_none c rs h.1

pub of_core-placed_other : (c : ℕ) (r : Record) (rs : List Record) → r.core ≢ c →
    of_core c (placed r rs) ≡ of_core c rs
of_core-placed_other c r [] ne = grind (arith, nat_tests)
of_core-placed_other c r (s ∷ ss) ne = let rest = of_core-placed_other c r ss ne in grind (arith, nat_tests)

pub of_core-placed_own : (r : Record) (rs : List Record) → Sorted rs → Each (λ s. s.core ≡ r.core → s.ts ≤ r.ts) rs →
    of_core r.core (placed r rs) ≡ of_core r.core rs ++ r ∷ []
of_core-placed_own r [] s h = grind (arith, nat_tests)
of_core-placed_own r (x ∷ xs) s h =
    let rest = of_core-placed_own r xs s.1 h.1 in
    let none : r.ts < x.ts → of_core r.core (x ∷ xs) ≡ [] = λ lt. of_core_none r.core (x ∷ xs)
    (apart (λ y. y.core ≡ r.core) r.ts (x ∷ xs) (lt, each_weaker (λ y k. omega arith) xs s.0) h) in
    grind (arith, nat_tests)

pub Follows-push : (k : ℕ) (ops : List Op) (rs : List Record) (r : Record) → Follows k ops rs →
    r.place ≡ k + length rs → slice_get ops (k + length rs) ≡ Some r.op → Follows k ops (rs ++ r ∷ [])
Follows-push k ops [] r h p o = (p ∙ omega arith, subst (λ (n : ℕ). slice_get ops n ≡ Some r.op) (omega arith) o, tt)
Follows-push k ops (s ∷ ss) r h p o = (
  h.0,
  h.1,
  Follows-push (k + 1) ops ss r h.2 (p ∙ omega arith)
      (subst (λ (n : ℕ). slice_get ops n ≡ Some r.op) (omega arith) o),
)

-- numbers
pub count_none : (k : ℕ) (rs : List Record) → Each (λ s. s.number < k) rs → count_by (λ s. s.number == k) rs ≡ 0
count_none k [] h = refl
count_none k (r ∷ rs) h = let lt = h.0 in let rest = count_none k rs h.1 in
    let one = sum_by-cons (λ (s : Record). cond (eqb s.number k) 1 0) r rs in grind (arith, nat_tests)

pub count-push : (k : ℕ) (rs : List Record) (r : Record) → count_by (λ s. s.number == k) (rs ++ r ∷ []) ≡ count_by
    (λ s. s.number == k) rs + cond (eqb r.number k) 1 0
count-push k rs r = sum_by_push (λ (s : Record). cond (eqb s.number k) 1 0) rs r

-- with the next number, the numbers are still 0 to n - 1, each once
pub counts-push : (rs : List Record) (r : Record) → r.number ≡ length rs → Each (λ s. s.number < length rs) rs →
    ((k : ℕ) → k < length rs → count_by (λ s. s.number == k) rs ≡ 1) → (k : ℕ) → k < length (rs ++ r ∷ []) →
    count_by (λ s. s.number == k) (rs ++ r ∷ []) ≡ 1
counts-push rs r n below once k lt =
    let more = count-push k rs r in let long = length_push rs r in let old = once k in
    let none : k ≡ length rs → count_by (λ (s : Record). s.number == k) rs ≡ 0 =
    λ e. count_none k rs (rw (← e) at below) in grind (arith, nat_tests)

length_placed : (c : ℕ) (r : Record) (rs : List Record) → length (of_core c (placed r rs)) ≡ length
    (of_core c rs) + cond (eqb r.core c) 1 0
length_placed c r [] = grind arith
length_placed c r (s ∷ ss) = let rest = length_placed c r ss in grind arith

length_arranged_from : (c : ℕ) (start rs : List Record) → length (of_core c (arranged_from start rs)) ≡ length
    (of_core c start) + length (of_core c rs)
length_arranged_from c start [] = omega arith
length_arranged_from c start (r ∷ rs) =
    let i = length_arranged_from c (placed r start) rs in let p = length_placed c r start in grind arith

pub length_arranged : (c : ℕ) (rs : List Record) → length (of_core c (arranged rs)) ≡ length (of_core c rs)
length_arranged c rs = length_arranged_from c [] rs ∙ omega arith

-- more may be issued
slice_get_more : {X : Type 0} (xs ys : List X) (k : ℕ) (x : X) → slice_get xs k ≡ Some x →
    slice_get (xs ++ ys) k ≡ Some x
slice_get_more xs ys k x h =
    let lt = slice_get_within xs k x h in
    slice_get-get_or (xs ++ ys) k x (omega (arith, length-append xs ys)) ∙ ap Some (get_or-append xs ys x k lt
    ∙ get_or_from_slice_get xs k x x h)

pub Follows-issued : (k : ℕ) (ops more : List Op) (rs : List Record) → Follows k ops rs → Follows k (ops ++ more) rs
Follows-issued k ops more [] h = tt
Follows-issued k ops more (r ∷ rs) h =
    (h.0, slice_get_more ops more k r.op h.1, Follows-issued (k + 1) ops more rs h.2)
