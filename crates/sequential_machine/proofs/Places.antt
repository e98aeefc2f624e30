-- A core's records stand alike in two orders of the records, if they have their places in both.
use Rattle.std.proofs.Common.{◌≡◌, ℕ, ◌+◌, ◌≤◌, eqb, List, [], ◌∷◌, ◌⊎◌, inl, inr, refl, sym, ap₂, subst, arith}
use Rattle.std.proofs.Common.{⊎_elim}
use Rattle.std.proofs.lemmas.Bool.Decides.{nat_tests}
use Rattle.std.proofs.lemmas.Grind.{common_steps}
use Rattle.std.specs.List.{AllByRecursion as Each}
use Rattle.std.specs.List.Sorted.{IsPermutation}
use Rattle.std.proofs.lemmas.List.Sorted.{All-permutation, IsPermutation-sym}
use Rattle.std.proofs.lemmas.List.Elements.{All-from_recursion, recursion_from_All}
use Rattle.std.proofs.lemmas.Bool.{cases_eq, cond_both, cond-true, cond-false, eqb-true, eq-eqb, ne_eqb}
use Rattle.physiological_order.specs.declared.operation.Op.{Op}
use Rattle.physiological_order.specs.declared.operation.Record.{Record}
use Rattle.physiological_order.specs.Order.{of_core, Follows}
use Rattle.physiological_order.proofs.Lemmas.{each_weaker}

-- what holds of each of some records holds of each in another order
pub each_permutation : (P : Record → Type 0) (xs ys : List Record) → IsPermutation xs ys → Each P xs → Each P ys
each_permutation P xs ys h e = recursion_from_All P ys (All-permutation P xs ys h (All-from_recursion P xs e))

each_of_core : (P : Record → Type 0) (c : ℕ) (rs : List Record) → Each (λ r. r.core ≡ c → P r) rs →
    Each P (of_core c rs)
each_of_core P c [] h = tt
each_of_core P c (r ∷ rs) h =
    let q0 = each_of_core P c rs h.1 in grind (arith, nat_tests, common_steps, q0, cond_both, eqb-true)

of_core_each : (P : Record → Type 0) (c : ℕ) (rs : List Record) → Each P (of_core c rs) →
    Each (λ r. r.core ≡ c → P r) rs
of_core_each P c [] h = tt
of_core_each P c (r ∷ rs) h =
    ⊎_elim
    (λ (e : r.core ≡ c).
    let k = subst (λ (xs : List Record). Each P xs) (cond-true (eqb r.core c) (r ∷ of_core c rs) (of_core c rs)
    (eq-eqb r.core c e)) h in
    (λ (_ : r.core ≡ c). k.0, of_core_each P c rs k.1))
    (λ (ne : r.core ≡ c → ⊥).
    let k = subst (λ (xs : List Record). Each P xs) (cond-false (eqb r.core c) (r ∷ of_core c rs) (of_core c rs)
    (ne_eqb r.core c ne)) h in
    (λ (e : r.core ≡ c). absurd (ne e), of_core_each P c rs k))
    (cases_eq r.core c)

each_moved : (P : Record → Type 0) (c : ℕ) (xs ys : List Record) → IsPermutation xs ys → Each P (of_core c xs) →
    Each P (of_core c ys)
each_moved P c xs ys h e =
    each_of_core P c ys (each_permutation (λ r. r.core ≡ c → P r) xs ys h (of_core_each P c xs e))

places_from : (k : ℕ) (ops : List Op) (rs : List Record) → Follows k ops rs → Each (λ r. k ≤ r.place) rs
places_from k ops [] h = tt
places_from k ops (r ∷ rs) h =
    (let e : r.place ≡ k = h.0 in omega arith, each_weaker (λ s le. omega arith) rs (places_from (k + 1) ops rs h.2))

-- without the one at place k, what holds of the others
drop_head : (P : Record → Type 0) (k : ℕ) (z : Record) (zs : List Record) → z.place ≡ k → Each (λ w. k + 1 ≤ w.place)
    zs → Each (λ w. (w ≡ z) ⊎ P w) zs → Each P zs
drop_head P k z [] at h e = tt
drop_head P k z (w ∷ ws) at h e = (
  ⊎_elim (λ (q : w ≡ z). absurd (let b = subst (λ (v : Record). k + 1 ≤ v.place) q h.0 in omega arith)) (λ p. p)
      e.0,
  drop_head P k z ws at h.1 e.1,
)

unique : (k : ℕ) (ops : List Op) (xs ys : List Record) → Follows k ops xs → Follows k ops ys →
    ((P : Record → Type 0) → Each P xs → Each P ys) → ((P : Record → Type 0) → Each P ys → Each P xs) → xs ≡ ys
unique k ops [] [] a b there back = refl
unique k ops [] (y ∷ ys) a b there back = absurd ((there (λ z. ⊥) tt).0)
unique k ops (x ∷ xs) [] a b there back = absurd ((back (λ z. ⊥) tt).0)
unique k ops (x ∷ xs) (y ∷ ys) a b there back =
    let behind_x = places_from (k + 1) ops xs a.2 in
    let behind_y = places_from (k + 1) ops ys b.2 in
    let first = there (λ z. (z ≡ x) ⊎ (k + 1 ≤ z.place)) (inl refl, each_weaker (λ z h. inr h) xs behind_x) in
    let same : x ≡ y = ⊎_elim (λ (e : y ≡ x). sym e) (λ (le : k + 1 ≤ y.place). absurd (let at : y.place ≡ k = b.0 in
    omega arith)) first.0 in
    ap₂ (λ z zs. z ∷ zs) same
    (unique (k + 1) ops xs ys a.2 b.2
    (λ P h. drop_head P k x ys a.0 behind_y
    (there (λ z. (z ≡ x) ⊎ P z) (inl refl, each_weaker (λ z p. inr p) xs h)).1)
    (λ P h. drop_head P k y xs b.0 behind_x
    (back (λ z. (z ≡ y) ⊎ P z) (inl refl, each_weaker (λ z p. inr p) ys h)).1))

pub same_of_core : (c : ℕ) (ops : List Op) (xs ys : List Record) → IsPermutation xs ys →
    Follows 0 ops (of_core c xs) → Follows 0 ops (of_core c ys) → of_core c xs ≡ of_core c ys
same_of_core c ops xs ys h a b =
    unique 0 ops (of_core c xs) (of_core c ys) a b (λ P e. each_moved P c xs ys h e)
    (λ P e. each_moved P c ys xs (IsPermutation-sym xs ys h) e)
