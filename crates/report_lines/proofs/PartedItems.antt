-- The items that are left of a list, and one less.
use Rattle.std.proofs.Common.{◌≡◌, ℕ, zero, suc, ◌+◌, ◌==◌, ◌++◌, List, [], ◌∷◌, drop, Some, None}
use Rattle.std.proofs.Common.{refl, sym, ap, ◌∙◌, append_assoc, append-nil, arith}
use Rattle.std.specs.Prelude.{slice_get}
use Rattle.report_lines.specs.declared.layout.Layout.{Layout}
use Rattle.report_lines.specs.Layouts.{parted, parting}

drop_from : {X : Type 0} (xs : List X) (k : ℕ) (x : X) → slice_get xs k ≡ Some x → drop k xs ≡ x ∷ drop (suc k) xs
drop_from [] k x is = absurd (cc)
drop_from (first ∷ xs) zero x is = cc
drop_from (first ∷ xs) (suc k) x is = drop_from xs k x is

pub drop_next : {X : Type 0} (xs : List X) (k : ℕ) (x : X) → slice_get xs k ≡ Some x → drop k xs ≡ x ∷ drop (k + 1) xs
drop_next xs k x is =
    let next : suc k ≡ k + 1 = omega arith in drop_from xs k x is ∙ ap (λ (n : ℕ). x ∷ drop n xs) next

pub none_left : {X : Type 0} (xs : List X) (k : ℕ) → slice_get xs k ≡ None → drop k xs ≡ []
none_left [] zero is = refl
none_left [] (suc k) is = refl
none_left (first ∷ xs) zero is = absurd (cc)
none_left (first ∷ xs) (suc k) is = none_left xs k is

-- the text so far and that of the items that are left are all, and so they are after one more item
pub parted_next : {X : Type 0} (layout : Layout) (text : ℕ → X → List ℕ) (xs : List X) (k : ℕ) (x : X)
    (out behind more all : List ℕ) → slice_get xs k ≡ Some x → out ++ parted layout text k (drop k xs) ≡ all →
    behind ≡ out ++ parting layout (k == 0) → more ≡ behind ++ text k x →
    more ++ parted layout text (k + 1) (drop (k + 1) xs) ≡ all
parted_next {X} layout text xs k x out behind more all at before parts is =
    let next : suc k ≡ k + 1 = omega arith in
    let item = parting layout (k == 0) ++ text k x in
    let left = drop (k + 1) xs in
    let one : more ≡ out ++ item = is ∙ ap (λ (l : List ℕ). l ++ text k x) parts
    ∙ append_assoc out (parting layout (k == 0)) (text k x) in
    let split : parted layout text k (drop k xs) ≡ item ++ parted layout text (k + 1) left =
    ap (parted layout text k) (drop_next xs k x at) ∙ ap (λ (n : ℕ). item ++ parted layout text n left) next in
    ap (λ (l : List ℕ). l ++ parted layout text (k + 1) left) one
    ∙ append_assoc out item (parted layout text (k + 1) left) ∙ ap (λ (l : List ℕ). out ++ l) (sym split) ∙ before

-- behind the last item
pub parted_done : {X : Type 0} (layout : Layout) (text : ℕ → X → List ℕ) (xs : List X) (k : ℕ) (out all : List ℕ) →
    slice_get xs k ≡ None → out ++ parted layout text k (drop k xs) ≡ all → out ≡ all
parted_done {X} layout text xs k out all none done = sym (append-nil out)
    ∙ ap (λ (left : List X). out ++ parted layout text k left) (sym (none_left xs k none)) ∙ done
