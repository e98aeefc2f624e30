-- One more step: the operations of a core, and the steps of each core.
use Rattle.std.proofs.Common.{◌≡◌, ℕ, zero, suc, ◌==◌, max, cond, List, [], ◌∷◌, ◌++◌, length}
use Rattle.std.proofs.Common.{refl, sym, ap, ◌∙◌, arith, inl, inr}
use Rattle.std.proofs.lemmas.Bool.{cases_Bool}
use Rattle.std.proofs.lemmas.List.{ext_get_or}
use Rattle.physiological_order.specs.declared.operation.Op.{Op}
use Rattle.programs.specs.declared.steps.Step.{Step}
use Rattle.programs.specs.declared.steps.Step.TheVariants as step
use Rattle.trace_reader.specs.Steps.{cores_of, steps_of, lane, IsByCore, ops_of}

-- ---- operations

pub ops-none : ops_of [] ≡ []
unfolding ops_of
ops-none = refl

pub ops-op : (steps : List Step) (op : Op) → ops_of (steps ++ step.Op op ∷ []) ≡ ops_of steps ++ op ∷ []
unfolding ops_of
ops-op [] op = refl
ops-op (step.Op x ∷ steps) op = ap (λ (w : List Op). x ∷ w) (ops-op steps op)
ops-op (step.Advance ∷ steps) op = ops-op steps op

pub ops-advance : (steps : List Step) → ops_of (steps ++ step.Advance ∷ []) ≡ ops_of steps
unfolding ops_of
ops-advance [] = refl
ops-advance (step.Op x ∷ steps) = ap (λ (w : List Op). x ∷ w) (ops-advance steps)
ops-advance (step.Advance ∷ steps) = ops-advance steps

-- ---- cores

-- a core without steps adds none
pub lane-open : (lanes : List (List Step)) (k : ℕ) → lane (lanes ++ [] ∷ []) k ≡ lane lanes k
lane-open [] zero = refl
lane-open [] (suc k) = refl
lane-open (x ∷ lanes) zero = refl
lane-open (x ∷ lanes) (suc k) = lane-open lanes k

cores-push : (told : List (ℕ × Step)) (core : ℕ) (s : Step) →
    cores_of (told ++ (core, s) ∷ []) ≡ max (suc core) (cores_of told)
cores-push [] core s = refl
cores-push (t ∷ told) core s = let h = cores-push told core s in omega (arith, h)

steps-push : (k : ℕ) (told : List (ℕ × Step)) (core : ℕ) (s : Step) →
    steps_of k (told ++ (core, s) ∷ [])
    ≡ cond (core == k) (steps_of k told ++ s ∷ []) (steps_of k told)
steps-push k [] core s = refl
steps-push k (t ∷ told) core s =
    elim (cases_Bool (t.0 == k)) [
      | inl e ↦ elim (cases_Bool (core == k)) [
        | inl f ↦ rw (e, f) (ap (λ (w : List Step). t.1 ∷ w) (steps-push k told core s ∙ rw f refl))
        | inr f ↦ rw (e, f) (ap (λ (w : List Step). t.1 ∷ w) (steps-push k told core s ∙ rw f refl))
      ]
      | inr e ↦ rw e (steps-push k told core s)
    ]

-- one more step of a core
pub bycore-push : (told : List (ℕ × Step)) (old new : List (List Step)) (core : ℕ) (s : Step) → IsByCore told old →
    length new ≡ max (suc core) (length old) →
    ((k : ℕ) → lane new k ≡ cond (core == k) (lane old k ++ s ∷ []) (lane old k)) →
    IsByCore (told ++ (core, s) ∷ []) new
bycore-push told old new core s h len each = (
  len ∙ ap (max (suc core)) h.0 ∙ sym (cores-push told core s),
  λ k. each k ∙ ap (λ (w : List Step). cond (core == k) (w ++ s ∷ []) w) (h.1 k) ∙ sym (steps-push k told core s),
)

-- steps stand by core in one way
pub bycore-unique : (told : List (ℕ × Step)) (x y : List (List Step)) → IsByCore told x → IsByCore told y → x ≡ y
bycore-unique told x y h k = ext_get_or [] x y (h.0 ∙ sym k.0) (λ core lt. h.1 core ∙ sym (k.1 core))
