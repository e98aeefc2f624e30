-- Tables changed at one place.
use Rattle.std.proofs.Common.{◌≡◌, ◌≢◌, ℕ, eqb, refl, arith}
use Rattle.std.proofs.lemmas.Bool.{cases_eq, cond-true, cond-false, eq-eqb, ne_eqb}
use Rattle.std.proofs.lemmas.Bool.Decides.{nat_tests}
use Rattle.sequential_machine.specs.SequentialMachine.{with_at}

pub here : {X : Type 0} (table : ℕ → X) (t : ℕ) (x : X) → with_at table t x t ≡ x
here table t x = cond-true (eqb t t) x (table t) (eq-eqb t t refl)

pub elsewhere : {X : Type 0} (table : ℕ → X) (t : ℕ) (x : X) (u : ℕ) → u ≢ t → with_at table t x u ≡ table u
elsewhere table t x u ne = cond-false (eqb u t) x (table u) (ne_eqb u t ne)

pub everywhere : {X : Type 0} (P : ℕ → X → Type 0) (table : ℕ → X) (t : ℕ) (x : X) → P t x →
    ((u : ℕ) → u ≢ t → P u (table u)) → (u : ℕ) → P u (with_at table t x u)
everywhere P table t x own others u = let q0 = cases_eq u t in grind (arith, nat_tests, q0)
