-- Two records that are legal, and the same with another value received.
use Rattle.std.proofs.Common.{◌≡◌, ℕ, List, [], ◌∷◌, map, inr, refl, subst, Option, Some, None, arith}
use Rattle.std.proofs.lemmas.List.Sorted.{IsPermutation-refl}
use Rattle.physiological_order.specs.declared.operation.Record.{Record}
use Rattle.physiological_order.specs.declared.operation.Op.TheVariants.{Load, Store}
use Rattle.physiological_order.specs.Order.{Memory, replay}
use Rattle.physiological_order.specs.Example.{two_records, two_issued}
use Rattle.physiological_order.proofs.Kept.{Kept-push, Legal-from_Kept, Kept-none}
use Rattle.physiological_order.proofs.Unique.{one_arrangement}
use Rattle.physiological_order.proofs.laws.example.Goals as goal

zeros : Memory
zeros = λ a. 0

first : Record
first = record { core = 0; place = 0; op = Store 0 1; received = None; ts = 1; number = 0 }

pub returns-clause-one : goal.returns-clause-one
unfolding zeros first
returns-clause-one c =
    Legal-from_Kept (λ a. 0) two_issued (two_records 1)
    (Kept-push (λ a. 0) two_issued (first ∷ []) (record {
      core = 0;
      place = 1;
      op = Load 0;
      received =
          Some 1;
      ts = 1;
      number = 1;
    })
    (Kept-push (λ a. 0) two_issued [] first (Kept-none (λ a. 0) two_issued)
    (record { number = refl; place = refl; issued_there = refl; pts = tt; value = refl; undisturbed = tt }))
    (record {
      number = refl;
      place = refl;
      issued_there = refl;
      pts = (λ e. omega arith, tt);
      value =
          refl;
      undisturbed = tt;
    }))

pub returns-clause-zero : goal.returns-clause-zero
returns-clause-zero c = λ k.
    let e = one_arrangement (two_records 0) k.arranged (two_records 0) k.arrangement
    (record { same_members = IsPermutation-refl (two_records 0); rises = (inr (refl, omega arith), tt) }) in
    let v = subst (λ (rs : List Record). replay (λ a. 0) (map (λ r. r.op) rs) ≡ map (λ r. r.received) rs) e k.values in
    let z : ◌≡◌ {A = List (Option ℕ)} (None ∷ Some 1 ∷ []) (None ∷ Some 0 ∷ []) = v in
    let one : ◌≡◌ {A = ℕ} 1 0 = cc in absurd (omega arith)
