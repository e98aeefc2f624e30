use Rattle.std.proofs.Common.{◌≡◌, ℕ, ◌+◌, List, [], ◌∷◌, refl, sym, ap, ◌∙◌}
use Rattle.std.specs.Prelude.{sum_by}
use Rattle.std.specs.List.{AllByRecursion as Each}
use Rattle.std.specs.List.Sorted.{IsPermutation}
use Rattle.std.proofs.lemmas.List.Sums.{sum_by-cons}
use Rattle.std.proofs.lemmas.List.Sorted.{sum_by-IsPermutation, All-permutation}
use Rattle.std.proofs.lemmas.List.Elements.{All-from_recursion, recursion_from_All}
use Rattle.protocol.specs.Machine.{tally}

tally-sum : {X : Type 0} (w : X → ℕ) (xs : List X) → tally w xs ≡ sum_by w xs
tally-sum w [] = refl
tally-sum w (x ∷ xs) = ap (λ n. w x + n) (tally-sum w xs) ∙ sym (sum_by-cons w x xs)

pub tally-taken : {X : Type 0} (w : X → ℕ) (xs ys : List X) → IsPermutation xs ys → tally w xs ≡ tally w ys
tally-taken w xs ys h = tally-sum w xs ∙ sym (sum_by-IsPermutation w xs ys h) ∙ sym (tally-sum w ys)

pub each_taken : {X : Type 0} (P : X → Type 0) (xs ys : List X) → IsPermutation xs ys → Each P xs → Each P ys
each_taken P xs ys h e = recursion_from_All P ys (All-permutation P xs ys h (All-from_recursion P xs e))

pub each_map : {X : Type 0} {P Q : X → Type 0} → ((x : X) → P x → Q x) → (xs : List X) → Each P xs → Each Q xs
each_map f [] p = tt
each_map f (x ∷ xs) p = (f x p.0, each_map f xs p.1)
