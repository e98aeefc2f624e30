-- The numbers of a memory's words stay below 2^61.
use Rattle.std.proofs.Common.{◌≡◌, ℕ, ◌<◌, ◌^◌, Bool, true, false, cond, List, [], ◌∷◌, length, get_or, Option, Some}
use Rattle.std.proofs.Common.{IsSome, zero, suc, refl, sym, subst, arith, is_some}
use Rattle.std.proofs.lemmas.Bool.Decides.{nat_tests}
use Rattle.std.specs.Ordering.{nat_cmp, eq_by_cmp}
use Rattle.std.specs.Cmp.{nat_cmp_total}
use Rattle.std.specs.FinMap.{FinMap, empty, insert, entries, get, find, get-empty, get-entries, get-insert}

abbrev pub Bounded : FinMap nat_cmp ℕ → Type 0
Bounded m = (word : ℕ) → IsSome (get m word) → word < 2 ^ 61

same_key : (a b : ℕ) → eq_by_cmp nat_cmp a b ≡ true → a ≡ b
same_key a b e = grind (arith, nat_tests)

own_key : (a : ℕ) → eq_by_cmp nat_cmp a a ≡ true
own_key a = grind (arith, nat_tests)

pub Bounded-empty : Bounded empty
Bounded-empty word h =
    absurd (let e : is_some (get empty word) ≡ true = h in let n = get-empty {X = ℕ} nat_cmp word in cc)

by_case : (b : Bool) (word addr value : ℕ) (old : Option ℕ) → (b ≡ true → word ≡ addr) → addr < 2 ^ 61 →
    (IsSome old → word < 2 ^ 61) → IsSome (cond b (Some value) old) → word < 2 ^ 61
by_case true word addr value old same bound h k = let e = same refl in omega arith
by_case false word addr value old same bound h k = h k

pub Bounded-insert : (m : FinMap nat_cmp ℕ) (addr value : ℕ) → Bounded m → addr < 2 ^ 61 →
    Bounded (insert m addr value)
Bounded-insert m addr value h bound word k =
    by_case (eq_by_cmp nat_cmp word addr) word addr value (get m word) (same_key word addr) bound (h word)
    (subst IsSome (get-insert nat_cmp_total m addr value word) k)

or_later : (b : Bool) (v : ℕ) (rest : Option ℕ) → IsSome rest → IsSome (cond b (Some v) rest)
or_later true v rest h = refl
or_later false v rest h = h

finds_own : (es : List (ℕ × ℕ)) (i : ℕ) (d : ℕ × ℕ) → i < length es → IsSome (find nat_cmp (get_or es i d).0 es)
finds_own [] i d h = absurd (omega arith)
finds_own (e ∷ es) zero d h =
    subst (λ (b : Bool). IsSome (cond b (Some e.1) (find nat_cmp e.0 es))) (sym (own_key e.0)) refl
finds_own (e ∷ es) (suc i) d h = or_later (eq_by_cmp nat_cmp (get_or es i d).0 e.0) e.1
    (find nat_cmp (get_or es i d).0 es) (finds_own es i d (omega arith))

pub bounded_at : (m : FinMap nat_cmp ℕ) → Bounded m → (i : ℕ) (d : ℕ × ℕ) → i < length (entries m) →
    (get_or (entries m) i d).0 < 2 ^ 61
bounded_at m h i d lt =
    let key = (get_or (entries m) i d).0 in
    h key (subst IsSome (sym (get-entries m key)) (finds_own (entries m) i d lt))
