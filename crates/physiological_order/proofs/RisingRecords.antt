-- The test whether records rise by number.
use Rattle.std.proofs.Common.{◌≡◌, ℕ, ◌+◌, ◌<◌, Bool, true, false, nat_lt, List, [], ◌∷◌, length, get_or, zero, suc}
use Rattle.std.proofs.Common.{refl, sym, subst, arith, ◌↔◌, IsTrue}
use Rattle.std.proofs.lemmas.Bool.Decides.{nat_tests}
use Rattle.std.specs.List.{IsAllAdjacentAnswer}
use Rattle.physiological_order.specs.declared.operation.Record.{Record}
use Rattle.physiological_order.specs.StaleHits.{RisesByNumber}

below : (m n : ℕ) → true ≡ nat_lt m n → m < n
below m n e = grind (arith, nat_tests)

not_below : (m n : ℕ) → false ≡ nat_lt m n → m < n → ⊥
not_below m n e lt = grind (arith, nat_tests)

after : (k : ℕ) → suc k + 1 ≡ suc (k + 1)
after k = omega arith

rises : (rs : List Record) → ((k : ℕ) (d : Record) → k + 1 < length rs → true ≡ nat_lt (get_or rs k d).number
    (get_or rs (k + 1) d).number) → RisesByNumber rs
rises (r ∷ s ∷ rs) h = (
  below r.number s.number (h 0 r (omega arith)),
  rises (s ∷ rs) (λ k d lt. subst (λ (n : ℕ). true ≡ nat_lt (get_or (s ∷ rs) k d).number
      (get_or (r ∷ s ∷ rs) n d).number) (after k) (h (suc k) d (omega arith))),
)
rises _ h = tt

rises_at : (rs : List Record) → RisesByNumber rs → (k : ℕ) (d : Record) → k + 1 < length rs →
    (get_or rs k d).number < (get_or rs (k + 1) d).number
rises_at (r ∷ s ∷ rs) h zero d lt = h.0
rises_at (r ∷ s ∷ rs) h (suc k) d lt =
    subst (λ (n : ℕ). (get_or (s ∷ rs) k d).number < (get_or (r ∷ s ∷ rs) n d).number) (sym (after k))
    (rises_at (s ∷ rs) h.1 k d (omega arith))
rises_at _ h k d lt = absurd (omega arith)

pub rises_exactly : (rs : List Record) (answer : Bool) → IsAllAdjacentAnswer (λ x y b. b ≡ nat_lt x.number y.number)
    rs answer → IsTrue answer ↔ RisesByNumber rs
rises_exactly rs true h = (λ e. rises rs (λ k d lt. h k d lt), λ e. refl)
rises_exactly [] false h = absurd (let lt = h.1 in omega arith)
rises_exactly (r ∷ rs) false h = (
  λ e. cc,
  λ e. absurd (not_below (get_or (r ∷ rs) h.0 r).number (get_or (r ∷ rs) (h.0 + 1) r).number (h.2 r)
      (rises_at (r ∷ rs) e h.0 r h.1)),
)
