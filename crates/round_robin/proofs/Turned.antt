-- A list that is done from its front: what is done, and the rest, turned round.
use Rattle.std.proofs.Common.{◌≡◌, ℕ, zero, suc, ◌<◌, List, [], ◌∷◌, ◌++◌, length, All, reverse}
use Rattle.std.proofs.Common.{append_assoc, length-append, sym, ap, ◌∙◌, arith}
use Rattle.std.proofs.Math.ListN.{set}
use Rattle.std.proofs.lemmas.List.{reverse-append}

-- the last item of the rest is done next
pub one_more_turned : {A : Type 0} (front old new : List A) (x : A) (all : List A) → old ≡ new ++ x ∷ [] →
    front ++ reverse old ≡ all → (front ++ x ∷ []) ++ reverse new ≡ all
one_more_turned front old new x all e whole =
    append_assoc front (x ∷ []) (reverse new)
    ∙ ap (λ z. front ++ z) (sym (ap reverse e ∙ reverse-append new (x ∷ []))) ∙ whole

-- while there is a rest, less is done than the whole list
pub one_is_left : {A : Type 0} (front old new : List A) (x : A) (all : List A) (n : ℕ) → old ≡ new ++ x ∷ [] →
    front ++ reverse old ≡ all → length front ≡ n → n < length all
one_is_left front old new x all n e whole done =
    let count = ap length (one_more_turned front old new x all e whole) in
    let first = length-append (front ++ x ∷ []) (reverse new) in
    let second = length-append front (x ∷ []) in
    omega arith

-- what holds of each item, and of the one that is put in
pub all_set : {V : Type 0} (P : V → Type 0) (vs : List V) (h : ℕ) (w : V) → All P vs → P w → All P (set vs h w)
all_set P [] h w a p k d lt = absurd (omega arith)
all_set P (v ∷ vs) zero w a p zero d lt = p
all_set P (v ∷ vs) zero w a p (suc k) d lt = a (suc k) d lt
all_set P (v ∷ vs) (suc h) w a p zero d lt = a 0 d (omega arith)
all_set P (v ∷ vs) (suc h) w a p (suc k) d lt =
    all_set P vs h w (λ i e l. a (suc i) e (omega arith)) p k d (omega arith)
