-- The end of a legal history of performed threads is an outcome of the sequential machine.
use Rattle.std.proofs.Common.{◌≡◌, ℕ, ◌<◌, List, [], ◌∷◌, length, map, Option, Some, None, refl, sym, ap, ap₂, ◌∙◌}
use Rattle.std.proofs.Common.{subst, arith, Bool, true}
use Rattle.std.proofs.lemmas.Bool.Decides.{nat_tests}
use Rattle.std.specs.Prelude.{slice_get, unwrap_or}
use Rattle.std.specs.List.{list_all}
use Rattle.std.proofs.lemmas.Bool.{and_parts, ltb-true}
use Rattle.physiological_order.specs.declared.operation.Op.{Op}
use Rattle.physiological_order.specs.declared.operation.Record.{Record}
use Rattle.physiological_order.specs.Order.{Memory, Arrangement, Legal, KeepsProgramOrder, ReceivesAsReplayed}
use Rattle.physiological_order.specs.Order.{of_core, replay_end}
use Rattle.physiological_order.proofs.Lemmas.{one_arrangement}
use Rattle.litmus_parser.specs.declared.syntax.Name.{Name}
use Rattle.litmus_parser.specs.declared.syntax.Name.TheVariants.{Register, Location}
use Rattle.litmus_reader.specs.Litmus.{Litmus}
use Rattle.litmus_reader.specs.ThreadSteps.{Thread, next_operation}
use Rattle.litmus_reader.specs.Truth.{end_value}
use Rattle.litmus_reader.specs.WellFormed.{is_there, IsWellFormed}
use Rattle.sequential_machine.specs.SequentialMachine.{SequentialState, memory_opened, value_at, IsOutcome}
use Rattle.sequential_machine.specs.Performed.{ArePerformed}
use Rattle.sequential_machine.specs.Threads.{ThreadIsAt}
use Rattle.sequential_machine.proofs.Doing.{Does, does}
use Rattle.sequential_machine.proofs.ThreadSteps.{none_left}
use Rattle.sequential_machine.proofs.Runs.{start, whole}
use Rattle.sequential_machine.proofs.Places.{each_permutation, same_of_core}

-- a list's thread
abbrev or_none : Option Thread → Thread
or_none (Some q) = q
or_none None = record { thread = 0; registers = []; rest = [] }

abbrev thread_of : List Thread → ℕ → Thread
thread_of threads t = or_none (slice_get threads t)

-- each name has the same value in the threads and memory and in the state
same_value : (threads : List Thread) (memory : List ℕ) (s : SequentialState) (n locations : ℕ) →
    ((t : ℕ) → t < n → slice_get threads t ≡ Some (thread_of threads t)) →
    ((t : ℕ) → t < n → ThreadIsAt s t (thread_of threads t)) →
    ((l : ℕ) → l < locations → slice_get memory l ≡ Some (s.memory l)) →
    (name : Name) → is_there n locations name ≡ true → end_value threads memory name ≡ value_at s name
same_value threads memory s n locations found stand words (Register t r) is =
    let lt = ltb-true t n is in grind (arith, nat_tests, lt)
same_value threads memory s n locations found stand words (Location l) is =
    ap (λ (o : Option ℕ). unwrap_or o 0) (words l (ltb-true l locations is))

pub same_values : (f g : Name → ℕ) (p : Name → Bool) → ((name : Name) → p name ≡ true → f name ≡ g name) →
    (names : List Name) → list_all p names ≡ true → map f names ≡ map g names
same_values f g p same [] h = refl
same_values f g p same (name ∷ names) h =
    let both = and_parts (p name) (list_all p names) h in
    ap₂ (λ v vs. v ∷ vs) (same name both.0) (same_values f g p same names both.1)

-- records that stand arranged, in which each thread's records stand as they were performed
module _ (test : Litmus) (issued : ℕ → List Op) (records arranged : List Record) (threads : List Thread)
    (performed : ArePerformed test issued records threads) (arrangement : Arrangement records arranged)
    (order : KeepsProgramOrder issued arranged) where
  found : (t : ℕ) → t < test.threads → slice_get threads t ≡ Some (thread_of threads t)
  found t lt = let p = performed.performed t lt in p.1 ∙ sym (ap (λ (o : Option Thread). Some (or_none o)) p.1)

  in_place : (t : ℕ) → t < test.threads → Does (start test t) (of_core t arranged) (thread_of threads t)
  in_place t lt =
      let p = performed.performed t lt in
      subst (λ (rs : List Record). Does (start test t) rs (thread_of threads t))
      (same_of_core t (issued t) records arranged arrangement.same_members (performed.in_order t lt) (order t))
      (subst (λ (q : Thread). Does (start test t) (of_core t records) q) (sym (ap or_none p.1))
      (does (start test t) (of_core t records) p.0 p.2))

  at_end : (t : ℕ) → t < test.threads → next_operation (thread_of threads t) ≡ None
  at_end t lt = let p = performed.performed t lt in ap (λ (o : Option Thread). next_operation (or_none o)) p.1 ∙ p.3

  outcome : (memory : List ℕ) → list_all (is_there test.threads (length test.locations)) test.seen ≡ true →
      ReceivesAsReplayed (memory_opened test) arranged →
      ((l : ℕ) → l < length test.locations → slice_get memory l ≡ Some (replay_end (memory_opened test)
      (map (λ r. r.op) arranged) l)) → IsOutcome test (map (end_value threads memory) test.seen)
  outcome memory names values words =
      let r = whole test test.threads arranged (thread_of threads) (each_permutation (λ x. x.core < test.threads)
      records arranged arrangement.same_members performed.there) in_place values in
      record {
        last = r.end;
        steps = r.steps;
        finished = λ t lt. none_left r.end t (thread_of threads t) (r.stand t lt) (at_end t lt);
        values_are =
            same_values (end_value threads memory) (value_at r.end) (is_there test.threads (length test.locations))
            (same_value threads memory r.end test.threads (length test.locations) found r.stand (λ l lt. words l lt
            ∙ sym (ap (λ (m : Memory). Some (m l)) r.memory)))
            test.seen names;
      }

pub performed_outcome : (test : Litmus) (issued : ℕ → List Op) (records arranged : List Record)
    (threads : List Thread) (memory : List ℕ) → IsWellFormed test →
    Legal (memory_opened test) issued records → Arrangement records arranged →
    ArePerformed test issued records threads →
    ((l : ℕ) → l < length test.locations → slice_get memory l ≡ Some (replay_end (memory_opened test)
    (map (λ r. r.op) arranged) l)) → IsOutcome test (map (end_value threads memory) test.seen)
performed_outcome test issued records arranged threads memory is legal arrangement performed words =
    let e = one_arrangement records legal.arranged arranged legal.arrangement arrangement in
    outcome test issued records arranged threads performed arrangement (subst (KeepsProgramOrder issued) e
    legal.program_order) memory is.names_there
    (subst (ReceivesAsReplayed (memory_opened test)) e legal.values) words
