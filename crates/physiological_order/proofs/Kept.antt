-- What is kept of records stays so when one more completes.
use Rattle.std.proofs.Common.{◌≡◌, ℕ, ◌+◌, ◌<◌, ◌≤◌, List, [], ◌∷◌, ◌++◌, length, Some, inl, inr, sym, subst, arith}
use Rattle.std.proofs.Common.{length-append, slice_get, IsPermutation}
use Rattle.std.specs.List.{AllByRecursion as Each}
use Rattle.std.proofs.lemmas.List.Sorted.{IsPermutation-refl}
use Rattle.std.proofs.lemmas.Bool.{cases_eq}
use Rattle.physiological_order.specs.declared.operation.Op.{Op}
use Rattle.physiological_order.specs.declared.operation.Record.{Record}
use Rattle.physiological_order.specs.Order.{Memory, Follows, of_core, Arrangement, Legal}
use Rattle.physiological_order.specs.Completion.{placed, arranged, Ascends, Receives, Kept, Fits}
use Rattle.physiological_order.proofs.History.{Sorted, each_weaker, Receives-placed, replay-from_Receives}
use Rattle.physiological_order.proofs.ArrangedRecords.{arranged-push, each_arranged, each_push}
use Rattle.physiological_order.proofs.ArrangedRecords.{IsPermutation-push_placed, Ascends-placed, Sorted-from_Ascends}
use Rattle.physiological_order.proofs.ArrangedRecords.{Rises-from_Ascends, of_core-placed_other, of_core-placed_own}
use Rattle.physiological_order.proofs.ArrangedRecords.{Follows-push, Follows-issued, counts-push, length_arranged}

pub arrangement_of : (opening : Memory) (issued : ℕ → List Op) (records : List Record) → Kept opening issued records →
    Arrangement records (arranged records)
arrangement_of opening issued records k =
    record { same_members = k.members; rises = Rises-from_Ascends (arranged records) k.ascends }

pub Legal-from_Kept : (opening : Memory) (issued : ℕ → List Op) (records : List Record) →
    Kept opening issued records → Legal opening issued records
Legal-from_Kept opening issued records k =
    record {
      numbers = k.once;
      arranged = arranged records;
      arrangement = arrangement_of opening issued records k;
      program_order = k.program;
      values = replay-from_Receives opening (arranged records) k.values;
    }

pub Kept-none : (opening : Memory) (issued : ℕ → List Op) → Kept opening issued []
Kept-none opening issued =
    record {
      once = λ k h. absurd (omega arith);
      below = tt;
      members = IsPermutation-refl [];
      ascends = tt;
      program =
          λ c. tt;
      values = tt;
    }

pub Kept-issue : (opening : Memory) (old new : ℕ → List Op) (records : List Record) →
    ((c : ℕ) → (more : List Op) × (new c ≡ old c ++ more)) → Kept opening old records → Kept opening new records
Kept-issue opening old new records grows k =
    record {
      once = k.once;
      below = k.below;
      members = k.members;
      ascends = k.ascends;
      program = λ c. rw (grows c).1 (Follows-issued 0 (old c) (grows c).0 (of_core c (arranged records)) (k.program c));
      values = k.values;
    }

program_push : (ops : List Op) (records : List Record) (r : Record) (c : ℕ) → Sorted (arranged records) →
    r.place ≡ length (of_core r.core records) → (c ≡ r.core → slice_get ops r.place ≡ Some r.op) →
    Each (λ s. s.core ≡ r.core → s.ts ≤ r.ts) records → Follows 0 ops (of_core c (arranged records)) →
    Follows 0 ops (of_core c (placed r (arranged records)))
program_push ops records r c s place there pts h = elim (cases_eq r.core c) [
  | inl e ↦ (let long = length_arranged r.core records in
      let next : r.place ≡ 0 + length (of_core r.core (arranged records)) = omega arith in
      let last = of_core-placed_own r (arranged records) s
      (each_arranged (λ x. x.core ≡ r.core → x.ts ≤ r.ts) records pts) in
      rw (← e, last)
      (Follows-push 0 ops (of_core r.core (arranged records)) r (rw (← e) at h) next (rw next at (there (sym e)))))
  | inr ne ↦ rw (of_core-placed_other c r (arranged records) ne) h
]

-- records are kept when one more is completed
pub Kept-push : (opening : Memory) (issued : ℕ → List Op) (records : List Record) (r : Record) →
    Kept opening issued records → Fits opening issued records r → Kept opening issued (records ++ r ∷ [])
Kept-push opening issued records r k f =
    let sorted = Sorted-from_Ascends (arranged records) k.ascends in
    let at = sym (arranged-push records r) in
    record {
      once = counts-push records r f.number k.below k.once;
      below = each_push (λ s. s.number < length (records ++ r ∷ [])) records r
          (each_weaker (λ s h. omega (arith, length-append records (r ∷ []))) records k.below)
          (let n = f.number in omega (arith, length-append records (r ∷ [])));
      members = subst (λ (rs : List Record). IsPermutation (records ++ r ∷ []) rs) at
          (IsPermutation-push_placed records (arranged records) r k.members);
      ascends = subst Ascends at (Ascends-placed r (arranged records) k.ascends
          (each_weaker (λ s h. let n = f.number in omega arith) (arranged records)
          (each_arranged (λ s. s.number < length records) records k.below)));
      program = λ c. subst (λ (rs : List Record). Follows 0 (issued c) (of_core c rs)) at
          (program_push (issued c) records r c sorted f.place
          (λ e. subst (λ (d : ℕ). slice_get (issued d) r.place ≡ Some r.op) (sym e) f.issued_there)
          f.pts (k.program c));
      values = subst (Receives opening) at (Receives-placed opening r (arranged records) sorted k.values
          f.value f.undisturbed);
    }
