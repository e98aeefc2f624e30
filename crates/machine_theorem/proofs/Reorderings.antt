-- Bags of messages that weigh the same, whatever each message weighs, differ only in their order.
use Rattle.std.proofs.Common.{◌≡◌, ◌≢◌, ℕ, ◌+◌, Bool, true, false, cond, eqb, ◌&&◌, List, [], ◌∷◌, refl, ap, ◌∙◌, subst}
use Rattle.std.proofs.Common.{arith, ⊎_elim}
use Rattle.std.proofs.lemmas.Bool.{cases_Bool, cond-true, cond-false, eqb-true, eq-eqb}
use base.Stored.{Gv, gnil, gnum, gcons}
use Rattle.network.specs.declared.message.Message.{Message}
use Rattle.network.specs.contracts.message.Message as contracts
use Rattle.machine_theorem.specs.Bags.{weigh, SameBag}

-- whether two trees of numbers are the same
abbrev same_tree : Gv → Gv → Bool
same_tree gnil gnil = true
same_tree (gnum m) (gnum n) = eqb m n
same_tree (gcons a b) (gcons c d) = same_tree a c && same_tree b d
same_tree _ _ = false

each_is : (x y : Bool) → (x && y) ≡ true → (x ≡ true) × (y ≡ true)
each_is true y e = (refl, e)
each_is false y e = absurd (let z : false ≡ true = e in cc)

same_tree-true : (a b : Gv) → same_tree a b ≡ true → a ≡ b
same_tree-true gnil gnil e = refl
same_tree-true (gnum m) (gnum n) e = ap gnum (eqb-true m n e)
same_tree-true (gcons a b) (gcons c d) e =
    let p = each_is (same_tree a c) (same_tree b d) e in
    let q = same_tree-true a c p.0 in
    let r = same_tree-true b d p.1 in
    λ i. gcons (q i) (r i)
same_tree-true _ _ e = absurd (cc)

same_tree-refl : (a : Gv) → same_tree a a ≡ true
same_tree-refl gnil = refl
same_tree-refl (gnum n) = eq-eqb n n refl
same_tree-refl (gcons a b) = ap (λ t. t && same_tree b b) (same_tree-refl a) ∙ same_tree-refl b

-- whether two messages are the same
abbrev pub is_same : Message → Message → Bool
is_same x y = same_tree (contracts.the_row.coded.code x) (contracts.the_row.coded.code y)

pub is_same-true : (x y : Message) → is_same x y ≡ true → x ≡ y
is_same-true x y e = contracts.the_row.coded.inj x y (same_tree-true _ _ e)

-- 1 if two messages are the same
abbrev pub hit : Message → Message → ℕ
hit x y = cond (is_same x y) 1 0

pub hit-itself : (x : Message) → hit x x ≡ 1
hit-itself x = cond-true (is_same x x) 1 0 (same_tree-refl (contracts.the_row.coded.code x))

-- lists of messages that differ only in their order
pub data Reordered : List Message → List Message → Type 0 where
  none : Reordered [] []
  behind : {xs ys : List Message} (x : Message) → Reordered xs ys → Reordered (x ∷ xs) (x ∷ ys)
  swapped : (x y : Message) (xs : List Message) → Reordered (x ∷ y ∷ xs) (y ∷ x ∷ xs)
  followed : {xs ys zs : List Message} → Reordered xs ys → Reordered ys zs → Reordered xs zs

pub unmoved : (xs : List Message) → Reordered xs xs
unmoved [] = none
unmoved (x ∷ xs) = behind x (unmoved xs)

pub weigh_reordered : (h : Message → ℕ) {xs ys : List Message} → Reordered xs ys → weigh h xs ≡ weigh h ys
weigh_reordered h none = refl
weigh_reordered h (behind x r) = ap (λ n. h x + n) (weigh_reordered h r)
weigh_reordered h (swapped x y xs) = omega arith
weigh_reordered h (followed r s) = weigh_reordered h r ∙ weigh_reordered h s

-- a message that weighs something is taken out
taken_out : (x : Message) (ys : List Message) → weigh (hit x) ys ≢ 0 → (zs : List Message) × Reordered (x ∷ zs) ys
taken_out x [] some = absurd (some refl)
taken_out x (y ∷ ys) some =
    ⊎_elim
    (λ (t : is_same x y ≡ true).
    (ys, subst (λ (z : Message). Reordered (x ∷ ys) (z ∷ ys)) (is_same-true x y t) (unmoved (x ∷ ys))))
    (λ (f : is_same x y ≡ false).
    let rest = taken_out x ys (λ e. some (let here : hit x y ≡ 0 = cond-false (is_same x y) 1 0 f in omega arith)) in
    (y ∷ rest.0, followed (swapped x y rest.0) (behind y rest.1)))
    (cases_Bool (is_same x y))

pub reordered : (xs ys : List Message) → SameBag xs ys → Reordered xs ys
reordered [] [] same = none
reordered [] (y ∷ ys) same = absurd (let e : 0 ≡ 1 + weigh (λ z. 1) ys = same (λ z. 1) in omega arith)
reordered (x ∷ xs) ys same =
    let here = hit-itself x in
    let out = taken_out x ys
    (λ e. let w : hit x x + weigh (hit x) xs ≡ weigh (hit x) ys = same (hit x) in omega arith) in
    followed (behind x (reordered xs out.0
    (λ h. let a = same h in let b = weigh_reordered h out.1 in omega arith))) out.1
