-- The verdict on the records of a message that was passed.
use Rattle.std.proofs.Common.{◌≡◌, ℕ, zero, suc, ◌<◌, List, [], ◌∷◌, ◌++◌, map, refl, sym, subst, ◌∙◌, inr, arith, eqb}
use Rattle.std.proofs.Common.{Result, Ok, Err, Option, Some, None, ⊎_elim}
use Rattle.std.specs.Prelude.{slice_index_or, ◌==◌, if◌then◌else◌, IfOk}
use Rattle.std.specs.declared.alloc.AllocError.{AllocError}
use Rattle.std.specs.FinMap.{FinMap, empty}
use Rattle.std.specs.Ordering.{nat_cmp}
use Rattle.std.specs.List.{AllByRecursion as Each}
use Rattle.std.proofs.lemmas.Bool.{cases_eq, cond-false, ne_eqb}
use Rattle.std.proofs.lemmas.List.Sorted.{IsPermutation-refl}
use Rattle.physiological_order.specs.declared.operation.Op.{Op}
use Rattle.physiological_order.specs.declared.operation.Op.TheVariants.{Load, Store}
use Rattle.physiological_order.specs.declared.operation.Record.{Record}
use Rattle.physiological_order.specs.declared.verdict.Verdict.{Verdict}
use Rattle.physiological_order.specs.declared.verdict.Verdict.TheVariants.{Legal as LegalVerdict, WrongValue}
use Rattle.physiological_order.specs.Order.{Memory, flat, Legal, Arrangement, NumberedOnce}
use Rattle.physiological_order.specs.Order.{KeepsProgramOrder, Follows, of_core}
use Rattle.physiological_order.specs.Faults.{IsVerdict, IssuedLists, issued_by}

-- what the two cores were issued
abbrev pub two_lists : List (List Op)
two_lists = (Store 0 1 ∷ Store 1 1 ∷ []) ∷ (Load 1 ∷ Load 0 ∷ []) ∷ []

abbrev issued : ℕ → List Op
issued core = slice_index_or two_lists core []

abbrev first_three : List Record
first_three =
    record { core = 0; place = 0; op = Store 0 1; received = None; ts = 1; number = 0 }
    ∷ record { core = 0; place = 1; op = Store 1 1; received = None; ts = 1; number = 1 }
    ∷ record { core = 1; place = 0; op = Load 1; received = Some 1; ts = 1; number = 2 } ∷ []

abbrev last : ℕ → Record
last message = record { core = 1; place = 1; op = Load 0; received = Some message; ts = 1; number = 3 }

abbrev pub four_records : ℕ → List Record
four_records message = first_three ++ last message ∷ []

numbers : (message : ℕ) → NumberedOnce (four_records message)
numbers message zero lt = refl
numbers message (suc zero) lt = refl
numbers message (suc (suc zero)) lt = refl
numbers message (suc (suc (suc zero))) lt = refl
numbers message (suc (suc (suc (suc k)))) lt = absurd (omega arith)

arrangement : (message : ℕ) → Arrangement (four_records message) (four_records message)
arrangement message = record {
  same_members = IsPermutation-refl (four_records message);
  rises = (inr (refl, omega arith), (inr (refl, omega arith), (inr (refl, omega arith), tt)));
}

-- a core past the second has no records
others : (core : ℕ) (rs : List Record) → Each (λ r. r.core < 2) rs → of_core (suc (suc core)) rs ≡ []
others core [] h = refl
others core (r ∷ rs) h =
    cond-false (eqb r.core (suc (suc core))) (r ∷ of_core (suc (suc core)) rs) (of_core (suc (suc core)) rs)
    (ne_eqb r.core (suc (suc core)) (λ e. absurd (let lt : r.core < 2 = h.0 in omega arith)))
    ∙ others core rs h.1

program_order : (message : ℕ) → KeepsProgramOrder issued (four_records message)
program_order message zero = (refl, refl, (refl, refl, tt))
program_order message (suc zero) = (refl, refl, (refl, refl, tt))
program_order message (suc (suc core)) =
    subst (λ (rs : List Record). Follows 0 [] rs)
    (sym (others core (four_records message) (omega arith, (omega arith, (omega arith, (omega arith, tt)))))) tt

order_before : KeepsProgramOrder issued first_three
order_before zero = (refl, refl, (refl, refl, tt))
order_before (suc zero) = (refl, refl, tt)
order_before (suc (suc core)) =
    subst (λ (rs : List Record). Follows 0 [] rs)
    (sym (others core first_three (omega arith, (omega arith, (omega arith, tt))))) tt

legal : Legal (flat empty) issued (four_records 1)
legal = record {
  numbers = numbers 1;
  arranged = four_records 1;
  arrangement = arrangement 1;
  program_order = program_order 1;
  values = refl;
}

wrong : (message : ℕ) → (message ≡ 1 → ⊥) → IsVerdict (flat empty) issued (four_records message) (WrongValue 3)
wrong message other = record {
  numbers = numbers message;
  arranged = four_records message;
  arrangement = arrangement message;
  walked = record {
    upto = record {
      before = first_three;
      faulty = last message;
      behind = [];
      split = refl;
      named = refl;
      order_before = order_before;
      values_before = refl;
    };
    in_order = program_order message;
    fault = λ same. other (let e : ◌≡◌ {A = List (Option ℕ)} (None ∷ None ∷ Some 1 ∷ Some 1 ∷ [])
        (None ∷ None ∷ Some 1 ∷ Some message ∷ []) = same in cc);
  };
}

expected : ℕ → Verdict
expected message = if message == 1 then LegalVerdict else WrongValue 3

-- the message 1 is legal, and any other is the wrong value of the record with the number 3
message_verdict : (message : ℕ) → IsVerdict (flat empty) issued (four_records message) (expected message)
unfolding expected
message_verdict message =
    ⊎_elim
    (λ (e : message ≡ 1). subst (λ (m : ℕ). IsVerdict (flat empty) issued (four_records m) (expected m)) (sym e) legal)
    (λ (ne : message ≡ 1 → ⊥). subst (IsVerdict (flat empty) issued (four_records message))
    (sym (cond-false (eqb message 1) LegalVerdict (WrongValue 3) (ne_eqb message 1 ne))) (wrong message ne))
    (cases_eq message 1)

-- so no other verdict is told
pub told : (opening : FinMap nat_cmp ℕ) (lists : IssuedLists) (records : List Record) (message : ℕ)
    (told : Result Verdict AllocError) → opening ≡ empty → map (λ ops. ops.items) lists ≡ two_lists →
    records ≡ four_records message →
    ((opening : Memory) (issued : ℕ → List Op) (records : List Record) (first second : Verdict) →
    IsVerdict opening issued records first → IsVerdict opening issued records second → first ≡ second) →
    IfOk told (IsVerdict (flat opening) (issued_by lists) records) →
    IfOk told (λ verdict. verdict ≡ (if message == 1 then LegalVerdict else WrongValue 3))
unfolding expected
told opening lists records message (Err e) empties same_lists same_records one h = tt
told opening lists records message (Ok verdict) empties same_lists same_records one h =
    one (flat empty) issued (four_records message) verdict (expected message)
    (subst (λ (rs : List Record). IsVerdict (flat empty) issued rs verdict) same_records
    (subst (λ (ls : List (List Op)). IsVerdict (flat empty) (λ core. slice_index_or ls core []) records verdict)
    same_lists
    (subst (λ (o : FinMap nat_cmp ℕ). IsVerdict (flat o) (issued_by lists) records verdict) empties h)))
    (message_verdict message)
