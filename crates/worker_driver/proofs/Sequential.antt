-- The end state of a run that is all done is an outcome of the sequential machine.
use Rattle.std.proofs.Common.{◌≡◌, ℕ, zero, suc, ◌+◌, ◌<◌, List, [], length, map, replicate, Option, Some, None}
use Rattle.std.proofs.Common.{IfSome, refl, sym, ap, subst, ◌∙◌, arith}
use Rattle.std.specs.List.{slice_get, AllByRecursion}
use Rattle.std.specs.Prelude.{slice_index_or}
use Rattle.std.specs.FinMap.{empty}
use Rattle.physiological_order.specs.declared.operation.Op.{Op}
use Rattle.physiological_order.specs.declared.operation.Record.{Record}
use Rattle.physiological_order.specs.Order.{Arrangement, Follows, Legal, flat, of_core, replay_end}
use Rattle.litmus_reader.specs.Litmus.{Litmus}
use Rattle.litmus_reader.specs.WellFormed.{IsWellFormed}
use Rattle.litmus_reader.specs.OpeningMemory.{words_opened, Words}
use Rattle.litmus_reader.specs.ThreadSteps.{Thread, next_operation}
use Rattle.litmus_reader.specs.Truth.{end_value}
use Rattle.machine_table.specs.declared.config.Config.{Config}
use Rattle.machine_table.specs.Machine.{Machine, operation_of, open_op, open_op_of}
use Rattle.machine_table.specs.Opening.{at_start, open_core, row}
use Rattle.machine_theorem.specs.Coherence.{coherent}
use Rattle.machine_theorem.specs.Consistency.{IsConsistent}
use Rattle.programs.specs.declared.ends.End.{End}
use Rattle.programs.specs.declared.ends.End.TheVariants.{AllDone, Stalled, TurnsUsed, Exhausted, NoMemory}
use Rattle.sequential_machine.specs.SequentialMachine.{IsOutcome, memory_opened}
use Rattle.sequential_machine.specs.Performed.{ArePerformed, thread_acts}
use Rattle.programs.specs.Acts.{as_step, next_in}
use Rattle.machine_theorem.specs.Service.{AreServed, IsServed}
use Rattle.programs.specs.Performs.{Performs, Told}
use Rattle.worker_driver.specs.Runs.{started, state_at, threads_from, values_from}

-- ---- rows of threads, values and cores, by number

thread_from : (test : Litmus) (start n k : ℕ) → k < n → slice_get (threads_from test start n) k ≡ Some
    (started test (start + k))
thread_from test start zero k below = absurd (omega (arith, below))
thread_from test start (suc n) zero below = ap (λ i. Some (started test i)) (omega arith)
thread_from test start (suc n) (suc k) below =
    thread_from test (start + 1) n k (omega (arith, below)) ∙ ap (λ i. Some (started test i)) (omega arith)

value_from : (m : Machine) (start n k : ℕ) → k < n → slice_get (values_from m start n) k ≡ Some
    (coherent m (start + k))
value_from m start zero k below = absurd (omega (arith, below))
value_from m start (suc n) zero below = ap (λ i. Some (coherent m i)) (omega arith)
value_from m start (suc n) (suc k) below =
    value_from m (start + 1) n k (omega (arith, below)) ∙ ap (λ i. Some (coherent m i)) (omega arith)

-- no core opens with an operation
nothing_open : (config : Config) (start n k : ℕ) → open_op_of (slice_get (row (open_core config) start n) k) ≡ None
nothing_open config start zero k = refl
nothing_open config start (suc n) zero = refl
nothing_open config start (suc n) (suc k) = nothing_open config (start + 1) n k

nothing_issued : (n k : ℕ) → slice_index_or (let lists : List (List Op) = replicate n [] in lists) k [] ≡ []
nothing_issued zero k = refl
nothing_issued (suc n) zero = refl
nothing_issued (suc n) (suc k) = nothing_issued n k

-- a thread that gives no step has finished
no_operation : (o : Option Op) → as_step o ≡ None → o ≡ None
no_operation None is = refl
no_operation (Some op) is = absurd cc

next_there : (threads : List Thread) (core : ℕ) (t : Thread) → slice_get threads core ≡ Some t →
    next_in thread_acts threads core ≡ None → next_operation t ≡ None
next_there threads core t here none =
    no_operation (next_operation t)
    (ap (λ (o : Option Thread). Rattle.programs.specs.Acts.next_of thread_acts o) (sym here) ∙ none)

-- ---- a run of a test

module _ (test : Litmus) (config : Config) (m : Machine) (threads : List Thread) (cores : config.cores ≡ test.threads)
    (served : AreServed thread_acts (at_start config (words_opened test.items empty)) m
    (threads_from test 0 test.threads) threads) where
  abbrev pub issued_to : ℕ → List Op
  issued_to core = slice_index_or m.issued core []

  of_thread : (t : ℕ) → t < test.threads → IsServed thread_acts
      (slice_index_or (at_start config (words_opened test.items empty)).issued t []) (issued_to t)
      (of_core t served.added) (operation_of (slice_get m.cores t)) (slice_get (threads_from test 0 test.threads) t)
      (slice_get threads t)
  of_thread t below = served.each t (subst (λ n. t < n) (sym cores) below) (nothing_open config 0 config.cores t)

  -- each thread was performed to its end
  performed : ((core : ℕ) → core < config.cores → (open_op m core ≡ None) ×
      (next_in thread_acts threads core ≡ None)) → ArePerformed test issued_to m.records threads
  performed done = record {
    there = subst (AllByRecursion (λ (r : Record). r.core < test.threads)) (sym served.records)
        (subst (λ n. AllByRecursion (λ (r : Record). r.core < n) served.added) cores served.there);
    in_order = λ t below.
        subst (λ rs. Follows 0 (issued_to t) (of_core t rs)) (sym served.records)
        (subst (λ (ops : List Op). Follows (length ops) (issued_to t) (of_core t served.added))
        (nothing_issued config.cores t) (of_thread t below).in_order);
    performed = λ t below.
        let told = subst (λ (o : Option Thread). Told thread_acts (of_core t served.added)
        (operation_of (slice_get m.cores t)) o (slice_get threads t)) (thread_from test 0 test.threads t below
        ∙ ap (λ i. Some (started test i)) (omega arith)) (of_thread t below).told in (
          told.now,
          told.is_now,
          subst (λ rs. Performs thread_acts (of_core t rs) (started test t) told.now) (sym served.records)
              told.performs,
          next_there threads t told.now told.is_now (done t (subst (λ n. t < n) (sym cores) below)).1,
        );
  }

  -- and the words are those that the records leave
  left : (arranged : List Record) → ((word : ℕ) → coherent m word ≡ replay_end (memory_opened test)
      (map (λ r. r.op) arranged) word) →
      (l : ℕ) → l < length test.locations → slice_get (values_from m 0 (length test.locations)) l ≡ Some
      (replay_end (memory_opened test) (map (λ r. r.op) arranged) l)
  left arranged leaves l below =
      value_from m 0 (length test.locations) l below ∙ ap (λ i. Some (coherent m i)) (omega arith)
      ∙ ap Some (leaves l)

-- only a run that is all done has a state
state_of : (test : Litmus) (end : End) (threads : List Thread) (m : Machine) (P : List ℕ → Type 0) →
    (end ≡ AllDone → P (map (end_value threads (values_from m 0 (length test.locations))) test.seen)) →
    IfSome (state_at test end threads m) P
state_of test AllDone threads m P is = is refl
state_of test Stalled threads m P is = tt
state_of test TurnsUsed threads m P is = tt
state_of test Exhausted threads m P is = tt
state_of test NoMemory threads m P is = tt

-- ---- the end state

-- a legal history of a test in which each thread was performed to its end has an outcome
abbrev pub SequentialLaw : Type 0
SequentialLaw =
    (test : Litmus) (issued : ℕ → List Op) (records arranged : List Record) (threads : List Thread)
    (memory : List ℕ) → IsWellFormed test → Legal (memory_opened test) issued records → Arrangement records arranged →
    ArePerformed test issued records threads →
    ((l : ℕ) → l < length test.locations → slice_get memory l ≡
    Some (replay_end (memory_opened test) (map (λ r. r.op) arranged) l)) →
    IsOutcome test (map (end_value threads memory) test.seen)

-- so has a run that came to a consistent machine, if it is all done
module _ (law : SequentialLaw) (test : Litmus) (config : Config) (m : Machine) (threads : List Thread)
    (cores : config.cores ≡ test.threads) (opened : m.opening ≡ words_opened test.items empty)
    (consistent : IsConsistent m)
    (served : AreServed thread_acts (at_start config (words_opened test.items empty)) m
    (threads_from test 0 test.threads) threads) where
  legal : Legal (memory_opened test) (λ core. slice_index_or m.issued core []) m.records
  legal = subst (λ (ws : Words). Legal (flat ws) (λ core. slice_index_or m.issued core []) m.records) opened
      consistent.legal

  leaves : (arranged : List Record) → Arrangement m.records arranged → (word : ℕ) →
      coherent m word ≡ replay_end (memory_opened test) (map (λ r. r.op) arranged) word
  leaves = subst (λ (ws : Words). (arranged : List Record) → Arrangement m.records arranged → (word : ℕ) →
      coherent m word ≡ replay_end (flat ws) (map (λ r. r.op) arranged) word) opened consistent.coherent

  pub has_outcome : IsWellFormed test → (end : End) →
      (end ≡ AllDone → (core : ℕ) → core < config.cores → (open_op m core ≡ None) ×
      (next_in thread_acts threads core ≡ None)) → (state : Option (List ℕ)) →
      state ≡ state_at test end threads m → IfSome state (IsOutcome test)
  has_outcome is end over state told =
      subst (λ s. IfSome s (IsOutcome test)) (sym told)
      (state_of test end threads m (IsOutcome test) (λ all.
      law test _ m.records legal.arranged threads _ is legal legal.arrangement
      (performed test config m threads cores served (over all))
      (left test config m threads cores served legal.arranged (leaves legal.arranged legal.arrangement))))
