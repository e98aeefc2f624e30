-- Sums over numbers, and functions with one value changed.
use Rattle.std.proofs.Common.{◌≡◌, ◌≢◌, ℕ, zero, suc, ◌+◌, ◌<◌, ◌≤◌, Option, Some, None}
use Rattle.std.proofs.Common.{sym, refl, ap, ◌∙◌, subst, arith, eq-eqb, ne_eqb}
use mathlib.Core.Logic.{dite}
use native.Mathlib.Decide.{ℕ_discrete}
use Rattle.seat_views.specs.Seated.{over, with_value_at}

module _ {A : Type 0} where
  pub put_here : (f : ℕ → A) (i : ℕ) (x : A) → with_value_at f i x i ≡ x
  put_here f i x = rw (eq-eqb i i refl)

  pub put_else : (f : ℕ → A) (i : ℕ) (x : A) (j : ℕ) → j ≢ i → with_value_at f i x j ≡ f j
  put_else f i x j n = rw (ne_eqb j i n)

  -- one test for every fact about a changed function
  pub at_put : (f : ℕ → A) (i : ℕ) (x : A) (F : ℕ → A → Type 0) (j : ℕ) →
      F i x → (j ≢ i → F j (f j)) → F j (with_value_at f i x j)
  at_put f i x F j here other =
      dite (ℕ_discrete j i)
      (λ (e : j ≡ i).
      let h : with_value_at f i x j ≡ x = ap (with_value_at f i x) e ∙ put_here f i x in
      subst (F j) (sym h) (subst (λ k. F k x) (sym e) here))
      (λ (n : j ≢ i). subst (F j) (sym (put_else f i x j n)) (other n))

pub over_same : (n : ℕ) (g h : ℕ → ℕ) → ((j : ℕ) → j < n → g j ≡ h j) → over n g ≡ over n h
over_same zero g h e = refl
over_same (suc n) g h e =
    let a = over_same n g h (λ j l. e j (omega arith)) in
    let b = e n (omega arith) in
    omega arith

-- a sum after one value changed
pub over_put_by : {A : Type 0} → (n : ℕ) (w : ℕ → A → ℕ) (f : ℕ → A) (i : ℕ) (x : A) → i < n →
    over n (λ j. w j (with_value_at f i x j)) + w i (f i) ≡ over n (λ j. w j (f j)) + w i x
over_put_by zero w f i x l = absurd (omega arith)
over_put_by (suc n) w f i x l =
    dite (ℕ_discrete n i)
    (λ (e : n ≡ i).
    let a : over n (λ j. w j (with_value_at f i x j)) ≡ over n (λ j. w j (f j)) =
    over_same n (λ j. w j (with_value_at f i x j)) (λ j. w j (f j))
    (λ j lt. ap (w j) (put_else f i x j (λ q. omega arith))) in
    let b : w n (with_value_at f i x n) ≡ w i x = ap (λ z. w z (with_value_at f i x z)) e ∙ ap (w i) (put_here f i x) in
    let c : w n (f n) ≡ w i (f i) = ap (λ z. w z (f z)) e in
    omega arith)
    (λ (ne : n ≢ i).
    let a = over_put_by n w f i x (omega arith) in
    let b : w n (with_value_at f i x n) ≡ w n (f n) = ap (w n) (put_else f i x n ne) in
    omega arith)

pub over_put : {A : Type 0} → (n : ℕ) (w : A → ℕ) (f : ℕ → A) (i : ℕ) (x : A) → i < n →
    over n (λ j. w (with_value_at f i x j)) + w (f i) ≡ over n (λ j. w (f j)) + w x
over_put n w f i x l = over_put_by n (λ _ a. w a) f i x l

unwrap_or_else : {A : Type 0} → A → Option A → A
unwrap_or_else d (Some x) = x
unwrap_or_else d None = d

pub some_is : {A : Type 0} {x y : A} → Some x ≡ Some y → x ≡ y
unfolding unwrap_or_else
some_is {x = x} e = ap (unwrap_or_else x) e

pub over_has : {A : Type 0} → (n : ℕ) (w : A → ℕ) (f : ℕ → A) (i : ℕ) → i < n → w (f i) ≤ over n (λ j. w (f j))
over_has zero w f i l = absurd (omega arith)
over_has (suc n) w f i l =
    dite (ℕ_discrete n i)
    (λ (e : n ≡ i). let c : w (f n) ≡ w (f i) = ap (λ z. w (f z)) e in omega arith)
    (λ (ne : n ≢ i). let a = over_has n w f i (omega arith) in omega arith)
