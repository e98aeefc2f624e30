-- The records of the cores of a reached state.
use Rattle.std.proofs.Common.{◌≡◌, ℕ, zero, suc, ◌<◌, Bool, true, false, cond, eqb, List, [], ◌∷◌, length}
use Rattle.std.proofs.lemmas.List.{get_or_past}
use Rattle.std.proofs.Common.{get_or, Option, Some, sym, refl, ap, ◌∙◌, subst, arith}
use Rattle.std.proofs.Common.{eq-eqb}
use Rattle.std.specs.Prelude.{slice_get}
use mathlib.Core.Logic.{dite}
use native.Mathlib.Decide.{dec_lt}
use Rattle.physiological_order.specs.declared.operation.Op.{Op}
use Rattle.physiological_order.specs.declared.operation.Record.{Record}
use Rattle.physiological_order.specs.Order.{of_core, Follows}
use Rattle.machine_theorem.specs.States.{first}
use Rattle.closed_machine.specs.Merged.{StandIn}
use Rattle.closed_machine.proofs.Places.{none_some, alike}

-- a record of one core is one of all, and a record is one of its core's
of_all : (j : ℕ) (xs : List Record) (k : ℕ) (r : Record) → slice_get (of_core j xs) k ≡ Some r →
    (i : ℕ) × (slice_get xs i ≡ Some r)
of_all j [] k r e = none_some e
of_all j (x ∷ xs) k r e = by (eqb x.core j) k e (λ q. of_all j xs q r)
  where
    by : (b : Bool) (k : ℕ) → slice_get (cond b (x ∷ of_core j xs) (of_core j xs)) k ≡ Some r →
        ((q : ℕ) → slice_get (of_core j xs) q ≡ Some r → (i : ℕ) × (slice_get xs i ≡ Some r)) →
        (i : ℕ) × (slice_get (x ∷ xs) i ≡ Some r)
    by true zero e rest = (0, e)
    by true (suc k) e rest = let q = rest k e in (suc q.0, q.1)
    by false k e rest = let q = rest k e in (suc q.0, q.1)

of_own : (j : ℕ) (xs : List Record) (k : ℕ) (r : Record) → slice_get xs k ≡ Some r → r.core ≡ j →
    (i : ℕ) × (slice_get (of_core j xs) i ≡ Some r)
of_own j [] k r e own = none_some e
of_own j (x ∷ xs) zero r e own =
    let b : eqb x.core j ≡ true = eq-eqb x.core j (let s : ◌≡◌ {A = Option Record} (Some x) (Some r) = e in cc) in
    (0, rw b e)
of_own j (x ∷ xs) (suc k) r e own = by (eqb x.core j) (of_own j xs k r e own)
  where
    by : (b : Bool) → (i : ℕ) × (slice_get (of_core j xs) i ≡ Some r) →
        (i : ℕ) × (slice_get (cond b (x ∷ of_core j xs) (of_core j xs)) i ≡ Some r)
    by true q = (suc q.0, q.1)
    by false q = q

pub stand : (log : List Record) → ((k : ℕ) (r : Record) → slice_get log k ≡ Some r → r.number ≡ k) → (j : ℕ) →
    StandIn log (of_core j log)
stand log numbers j i r e =
    let q = of_all j log i r e in ap (slice_get log) (numbers q.0 r q.1) ∙ q.1

-- a core that was issued nothing has no records
none_follow : (rs : List Record) → Follows 0 [] rs → rs ≡ []
none_follow [] f = refl
none_follow (r ∷ rs) f = none_some f.1

long : {X : Type 0} → (f : ℕ → X) (n : ℕ) → length (first f n) ≡ n
long f zero = refl
long f (suc n) = ap suc (long (λ i. f (suc i)) n)

pub all_placed : (log placed : List Record) (issued : ℕ → List Op) (cores : ℕ) → length placed ≡ length log →
    ((k : ℕ) (r : Record) → slice_get log k ≡ Some r → r.number ≡ k) →
    ((c : ℕ) → Follows 0 (get_or (first issued cores) c []) (of_core c log)) →
    ((c : ℕ) → c < cores → StandIn placed (of_core c log)) → placed ≡ log
all_placed log placed issued cores same numbers follows stands = alike placed log same at
  where
    at : (k : ℕ) (r : Record) → slice_get log k ≡ Some r → slice_get placed k ≡ Some r
    at k r e =
        let own = of_own r.core log k r e refl in
        ap (slice_get placed) (sym (numbers k r e))
        ∙ dite (dec_lt r.core cores) (λ l. stands r.core l own.0 r own.1)
        (λ no.
        let none : of_core r.core log ≡ [] =
        none_follow (of_core r.core log)
        (subst (λ ops. Follows 0 ops (of_core r.core log))
        (get_or_past (first issued cores) r.core [] (let n = long issued cores in omega arith)) (follows r.core)) in
        none_some (sym (ap (λ (rs : List Record). slice_get rs own.0) none) ∙ own.1))
