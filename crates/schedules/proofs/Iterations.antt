-- A function that is applied again and again.
use Rattle.std.proofs.Common.{◌≡◌, ℕ, zero, suc, ◌+◌, refl, ap, ◌∙◌, arith}
use Rattle.std.specs.Fn.{iterate}

module _ {A : Type 0} (f : A → A) where
  pub iterate_last : (n : ℕ) (x : A) → f (iterate f n x) ≡ iterate f (suc n) x
  iterate_last zero x = refl
  iterate_last (suc n) x = iterate_last n (f x)

  pub iterate_both : (m n : ℕ) (x : A) → iterate f n (iterate f m x) ≡ iterate f (m + n) x
  iterate_both zero n x = let count : n ≡ 0 + n = omega arith in ap (λ (k : ℕ). iterate f k x) count
  iterate_both (suc m) n x =
      let count : suc (m + n) ≡ suc m + n = omega arith in
      iterate_both m n (f x) ∙ ap (λ (k : ℕ). iterate f k x) count

  pub iterate_stays : ((x : A) → f x ≡ x) → (n : ℕ) (x : A) → iterate f n x ≡ x
  iterate_stays stays zero x = refl
  iterate_stays stays (suc n) x = iterate_stays stays n (f x) ∙ stays x
