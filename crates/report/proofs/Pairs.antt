-- Lists that are paired, one value after the other.
use Rattle.std.proofs.Common.{◌≡◌, ℕ, ◌⊎◌, inl, inr, length, arith, List, [], ◌∷◌, ◌++◌, map, sym, ap, ◌∙◌, refl}
use Rattle.std.proofs.lemmas.List.{append-nil}
use Rattle.std.specs.List.{zip}

none_left : {A B : Type 0} (xs : List A) (ys : List B) → (length xs ≡ 0) ⊎ (length ys ≡ 0) → zip xs ys ≡ []
none_left [] ys over = refl
none_left (x ∷ xs) [] over = refl
none_left (x ∷ xs) (y ∷ ys) (inl e) = absurd (omega (arith, e))
none_left (x ∷ xs) (y ∷ ys) (inr e) = absurd (omega (arith, e))

-- once one list is at its end, all pairs are there
pub all_paired : {A B : Type 0} (xs : List A) (ys : List B) (pairs : List (A × B)) {all : List (A × B)} →
    (length xs ≡ 0) ⊎ (length ys ≡ 0) → pairs ++ zip xs ys ≡ all → pairs ≡ all
all_paired {A} {B} xs ys pairs over e =
    sym (append-nil pairs) ∙ ap (λ (zs : List (A × B)). pairs ++ zs) (sym (none_left xs ys over)) ∙ e

-- the words of entries, paired with what a function has of them
pub of_entries : (f : ℕ → ℕ) (es : List (ℕ × ℕ)) →
    zip (map (λ e. e.0) es) (map f (map (λ e. e.0) es)) ≡ map (λ e. (e.0, f e.0)) es
of_entries f [] = refl
of_entries f (e ∷ es) = ap (λ (xs : List (ℕ × ℕ)). (e.0, f e.0) ∷ xs) (of_entries f es)
