-- Lists by place: what is read after a write, lists that are alike at each place, and values of a number.
use Rattle.std.proofs.Common.{◌≡◌, ◌≢◌, ℕ, zero, suc, ◌+◌, ◌<◌, List, [], ◌∷◌, length, set, Some, None}
use Rattle.std.proofs.Common.{sym, refl, ap, ap₂, ◌∙◌, subst, arith}
use Rattle.std.specs.Prelude.{slice_get}
use mathlib.Core.Logic.{dite}
use native.Mathlib.Decide.{ℕ_discrete}
use Rattle.physiological_order.specs.declared.operation.Record.{Record}
use Rattle.closed_machine.specs.Merged.{StandIn, Keeps}

-- what holds of all numbers below n, and of n
pub one_further : (P : ℕ → Type 0) (n : ℕ) → ((j : ℕ) → j < n → P j) → P n → (j : ℕ) → j < n + 1 → P j
one_further P n before here j lt =
    dite (ℕ_discrete j n) (λ (e : j ≡ n). subst P (sym e) here) (λ (ne : j ≢ n). before j (omega arith))

module _ {X : Type 0} where
  pub some_is : {x y : X} → Some x ≡ Some y → x ≡ y
  some_is e = cc

  pub none_some : {B : Type 0} {y : X} → None ≡ Some y → B
  none_some e = cc

  pub set_here : (xs : List X) (i : ℕ) (x : X) → i < length xs → slice_get (set xs i x) i ≡ Some x
  set_here [] i x l = absurd (omega arith)
  set_here (z ∷ xs) zero x l = refl
  set_here (z ∷ xs) (suc i) x l = set_here xs i x (omega arith)

  pub set_else : (xs : List X) (i j : ℕ) (x : X) → j ≢ i → slice_get (set xs i x) j ≡ slice_get xs j
  set_else (z ∷ xs) zero zero x ne = absurd (ne refl)
  set_else (z ∷ xs) (suc i) (suc j) x ne = set_else xs i j x (λ e. ne (ap suc e))
  set_else _ _ _ x ne = refl

  -- lists of one length, one of which has at each place what the other has
  pub alike : (xs ys : List X) → length xs ≡ length ys →
      ((k : ℕ) (y : X) → slice_get ys k ≡ Some y → slice_get xs k ≡ Some y) → xs ≡ ys
  alike [] [] l h = refl
  alike [] (y ∷ ys) l h = absurd (omega arith)
  alike (x ∷ xs) [] l h = absurd (omega arith)
  alike (x ∷ xs) (y ∷ ys) l h =
      ap₂ (λ a b. a ∷ b) (some_is (h 0 y refl)) (alike xs ys (omega arith) (λ k z e. h (suc k) z e))

  -- no value so far has the number
  pub not_so_far : (number : X → ℕ) (xs : List X) (i : ℕ) (x : X) (n : ℕ) → slice_get xs i ≡ Some x →
      number x ≢ n → ((j : ℕ) (y : X) → j < i → slice_get xs j ≡ Some y → number y ≢ n) →
      (j : ℕ) (y : X) → j < i + 1 → slice_get xs j ≡ Some y → number y ≢ n
  not_so_far number xs i x n here not before j y lt e =
      dite (ℕ_discrete j i)
      (λ (same : j ≡ i). λ is. not (ap number (some_is (sym here ∙ ap (slice_get xs) (sym same) ∙ e)) ∙ is))
      (λ (ne : j ≢ i). before j y (omega arith) e)

-- one more record is written at the place of its number
module _ (log own : List Record) (i : ℕ) (r : Record) (first old : List Record) (there : StandIn log own)
    (is : slice_get own i ≡ Some r) (room : r.number < length old) where
  pub one_more : ((j : ℕ) (s : Record) → j < i → slice_get own j ≡ Some s → slice_get old s.number ≡ Some s) →
      (j : ℕ) (s : Record) → j < i + 1 → slice_get own j ≡ Some s → slice_get (set old r.number r) s.number ≡ Some s
  one_more before j s l e =
      dite (ℕ_discrete s.number r.number)
      (λ (same : s.number ≡ r.number).
      ap (slice_get (set old r.number r)) same ∙ set_here old r.number r room
      ∙ sym (there i r is) ∙ ap (slice_get log) (sym same) ∙ there j s e)
      (λ (ne : s.number ≢ r.number).
      set_else old r.number s.number r ne
      ∙ dite (ℕ_discrete j i)
      (λ (here : j ≡ i). absurd (ne (ap (λ (x : Record). x.number) (some_is (sym e ∙ ap (slice_get own) here ∙ is)))))
      (λ (other : j ≢ i). before j s (omega arith) e))

  pub still : Keeps log first old → Keeps log first (set old r.number r)
  still keeps k s e f =
      dite (ℕ_discrete k r.number)
      (λ (same : k ≡ r.number).
      ap (slice_get (set old r.number r)) same ∙ set_here old r.number r room
      ∙ sym (there i r is) ∙ ap (slice_get log) (sym same) ∙ e)
      (λ (ne : k ≢ r.number). set_else old r.number k r ne ∙ keeps k s e f)
