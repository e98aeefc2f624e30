-- A history is checked with the lists that its cores were issued.
use Rattle.std.proofs.Common.{◌≡◌, ℕ, zero, suc, ◌≤◌, List, [], ◌∷◌, length, refl, sym, subst, arith, map, get_or}
use Rattle.std.specs.Prelude.{◌↔◌, IfOk, Result, Ok, Err}
use Rattle.physiological_order.specs.declared.operation.Op.{Op}
use Rattle.physiological_order.specs.declared.operation.Record.{Record}
use Rattle.physiological_order.specs.Order.{Follows, Legal, Memory, of_core}
use Rattle.physiological_order.specs.declared.verdict.Verdict.{Verdict}
use Rattle.physiological_order.specs.declared.verdict.Verdict.TheVariants.{Legal as LegalVerdict}

module _ {A : Type 0} (f : A → List Op) where
  -- there is no list past the last one
  pub past_all : (xs : List A) (k : ℕ) → length xs ≤ k → get_or (map f xs) k [] ≡ []
  past_all [] k le = refl
  past_all (y ∷ ys) zero le = absurd (omega (arith, le))
  past_all (y ∷ ys) (suc k) le = past_all ys k (omega (arith, le))

-- a history is legal for other lists that are the same for each core
pub legal_for : (opening : Memory) (a b : ℕ → List Op) (rs : List Record) → ((core : ℕ) → a core ≡ b core) →
    Legal opening b rs → Legal opening a rs
legal_for opening a b rs same legal = record {
  numbers = legal.numbers;
  arranged = legal.arranged;
  arrangement = legal.arrangement;
  program_order = λ core.
      subst (λ ops. Follows 0 ops (of_core core legal.arranged)) (sym (same core)) (legal.program_order core);
  values = legal.values;
}

-- and then this is the verdict
pub has_verdict : {E : Type 0} {P : Type 0} → P → (r : Result Verdict E) → IfOk r (λ v. (v ≡ LegalVerdict) ↔ P) →
    IfOk r (λ v. v ≡ LegalVerdict)
has_verdict p (Ok v) is = is.1 p
has_verdict p (Err e) is = tt
