-- The records of a run of a trace are a legal history of the trace's operations, and such as a text can tell.
use Rattle.std.proofs.Common.{◌≡◌, ℕ, zero, suc, ◌+◌, ◌<◌, ◌≤◌, Bool, cond, List, [], ◌∷◌, ◌++◌, map}
use Rattle.std.proofs.Common.{length, replicate, Option, Some, None, IfSome, refl, sym, ap, subst, ◌∙◌, arith, inl, inr}
use Rattle.std.proofs.Common.{append_assoc}
use Rattle.std.proofs.lemmas.Bool.{cases_lt, ne_eqb}
use Rattle.std.proofs.lemmas.List.Elements.{All-from_recursion, recursion_from_All}
use Rattle.std.proofs.lemmas.List.Sorted.{All-permutation, IsPermutation-sym}
use Rattle.std.specs.Prelude.{slice_get, slice_index_or}
use Rattle.std.specs.List.{AllByRecursion}
use Rattle.std.specs.FinMap.{FinMap, empty}
use Rattle.std.specs.Ordering.{nat_cmp}
use Rattle.physiological_order.specs.declared.operation.Op.{Op}
use Rattle.physiological_order.specs.declared.operation.Op.TheVariants.{Load, Store, Swap}
use Rattle.physiological_order.specs.declared.operation.Record.{Record}
use Rattle.physiological_order.specs.Order.{Arrangement, Memory, Follows, Legal, flat, flat_after, flat_received}
use Rattle.physiological_order.specs.Order.{of_core, replay, replay_end}
use Rattle.physiological_order.specs.StaleHits.{RisesByNumber}
use Rattle.physiological_order.proofs.Lemmas.{Follows-issued}
use Rattle.machine_table.specs.declared.config.Config.{Config}
use Rattle.machine_table.specs.Machine.{Machine, operation_of, open_op_of}
use Rattle.protocol.specs.Issued.{listed}
use Rattle.machine_table.specs.Opening.{at_start, open_core, row}
use Rattle.machine_theorem.specs.Coherence.{coherent}
use Rattle.machine_theorem.specs.Consistency.{IsConsistent}
use Rattle.trace_texts.specs.Records.{AreComplete, HasItsValue}
use Rattle.programs.specs.declared.ends.End.{End}
use Rattle.programs.specs.declared.steps.Step.{Step}
use Rattle.programs.specs.declared.steps.Step.TheVariants as step
use Rattle.trace_reader.specs.Steps.{lane, ops_of, trace_ops}
use Rattle.machine_theorem.specs.Service.{AreServed}
use Rattle.programs.specs.Performs.{Performs, Told, rests, advances, does}
use Rattle.worker_driver.specs.declared.set_up.Driver.{Driver}
use Rattle.report.specs.Runs.{IsTraceRun, LeadsFromZeros, programs_below, step_acts}
use Rattle.report.proofs.CoreCounts.{programs_count}

-- ---- what a program of steps gave

-- one more step
with_advance : (p : List Step) → step_acts.next p ≡ Some step.Advance → ops_of p ≡ ops_of (step_acts.done p None)
unfolding ops_of
with_advance [] is = absurd cc
with_advance (step.Op op ∷ steps) is = absurd cc
with_advance (step.Advance ∷ steps) is = refl

with_op : (p : List Step) (op : Op) (received : Option ℕ) → step_acts.next p ≡ Some (step.Op op) →
    ops_of p ≡ op ∷ ops_of (step_acts.done p received)
unfolding ops_of
with_op [] op received is = absurd cc
with_op (step.Op x ∷ steps) op received is = let same : x ≡ op = cc in ap (λ (y : Op). y ∷ ops_of steps) same
with_op (step.Advance ∷ steps) op received is = absurd cc

-- what was done, and then what is left
performed : (p q : List Step) (rs : List Record) → Performs step_acts rs p q →
    ops_of p ≡ map (λ r. r.op) rs ++ ops_of q
performed p q rs rests = refl
performed p q rs (advances next more) = with_advance p next ∙ performed (step_acts.done p None) q rs more
performed p q rs (does {r = r} {rs = left} next more) =
    with_op p r.op r.received next ∙ ap (λ (ops : List Op). r.op ∷ ops)
    (performed (step_acts.done p r.received) q left more)

-- ---- lists by core

lane_there : (lanes : List (List Step)) (n core : ℕ) → core < n →
    slice_get (programs_below lanes n) core ≡ Some (lane lanes core)
lane_there lanes zero core below = absurd (omega (arith, below))
lane_there lanes (suc n) core below = elim (cases_lt core n) [
  | inl before ↦ first (programs_below lanes n) (lane lanes n) core (lane lanes core) (lane_there lanes n core before)
  | inr behind ↦
      let same : core ≡ n = omega (arith, below, behind) in
      subst (λ (k : ℕ). slice_get (programs_below lanes n ++ lane lanes n ∷ []) k ≡ Some (lane lanes k)) (sym same)
      (subst (λ (k : ℕ). slice_get (programs_below lanes n ++ lane lanes n ∷ []) k ≡ Some (lane lanes n))
      (programs_count lanes n) (last (programs_below lanes n) (lane lanes n)))
]
  where
    first : {X : Type 0} (xs : List X) (y : X) (k : ℕ) (x : X) → slice_get xs k ≡ Some x →
        slice_get (xs ++ y ∷ []) k ≡ Some x
    first [] y k x is = absurd cc
    first (z ∷ xs) y zero x is = is
    first (z ∷ xs) y (suc k) x is = first xs y k x is

    last : {X : Type 0} (xs : List X) (y : X) → slice_get (xs ++ y ∷ []) (length xs) ≡ Some y
    last [] y = refl
    last (x ∷ xs) y = last xs y

pub issued_is : (lanes : List (List Step)) (core : ℕ) → trace_ops lanes core ≡ ops_of (lane lanes core)
unfolding ops_of
issued_is [] zero = refl
issued_is [] (suc core) = refl
issued_is (steps ∷ lanes) zero = refl
issued_is (steps ∷ lanes) (suc core) = issued_is lanes core

nothing_open : (config : Config) (start n k : ℕ) → open_op_of (slice_get (row (open_core config) start n) k) ≡ None
nothing_open config start zero k = refl
nothing_open config start (suc n) zero = refl
nothing_open config start (suc n) (suc k) = nothing_open config (start + 1) n k

nothing_issued : (n k : ℕ) → slice_index_or (let lists : List (List Op) = replicate n [] in lists) k [] ≡ []
nothing_issued zero k = refl
nothing_issued (suc n) zero = refl
nothing_issued (suc n) (suc k) = nothing_issued n k

-- records of cores below a number are none of a core past it
none_past : (n core : ℕ) (rs : List Record) → AllByRecursion (λ (r : Record). r.core < n) rs → n ≤ core →
    of_core core rs ≡ []
none_past n core [] there past = refl
none_past n core (r ∷ rs) there past =
    let other : r.core ≡ core → ⊥ = λ same. let b = there.0 in omega (arith, same, b, past) in
    ap (λ (b : Bool). cond b (r ∷ of_core core rs) (of_core core rs)) (ne_eqb r.core core other)
    ∙ none_past n core rs there.1 past

-- ---- each record has a value if its operation receives one

one_value : (m : Memory) (op : Op) (received : Option ℕ) → flat_received m op ≡ received → HasItsValue op received
one_value m (Load word) received is = subst (HasItsValue (Load word)) is tt
one_value m (Store word value) received is = subst (HasItsValue (Store word value)) is tt
one_value m (Swap word value) received is = subst (HasItsValue (Swap word value)) is tt

each_value : (m : Memory) (rs : List Record) → replay m (map (λ r. r.op) rs) ≡ map (λ r. r.received) rs →
    AllByRecursion (λ (r : Record). HasItsValue r.op r.received) rs
each_value m [] is = tt
each_value m (r ∷ rs) is =
    let here : flat_received m r.op ≡ r.received = cc in
    let later : replay (flat_after m r.op) (map (λ r. r.op) rs) ≡ map (λ r. r.received) rs = cc in
    (one_value m r.op r.received here, each_value (flat_after m r.op) rs later)

both : (rs : List Record) (n : ℕ) → n ≤ 64 → AllByRecursion (λ (r : Record). r.core < n) rs →
    AllByRecursion (λ (r : Record). HasItsValue r.op r.received) rs → AreComplete rs
both [] n few there has = tt
both (r ∷ rs) n few there has =
    let here : r.core < 64 = let b = there.0 in omega (arith, b, few) in
    ((here, has.0), both rs n few there.1 has.1)

-- ---- a run of a trace

module _ (lanes : List (List Step)) (config : Config) (m : Machine) (programs : List (List Step))
    (served : AreServed step_acts (at_start config empty) m (programs_below lanes config.cores) programs) where
  abbrev issued_to : ℕ → List Op
  issued_to core = slice_index_or m.issued core []

  there : AllByRecursion (λ (r : Record). r.core < config.cores) m.records
  there = subst (AllByRecursion (λ (r : Record). r.core < config.cores)) (sym served.records) served.there

  -- what is left of the trace behind what a core was issued
  opened : (o : Option Op) (q : List Step) → IfSome o (λ op. step_acts.next q ≡ Some (step.Op op)) →
      (rest : List Op) × (ops_of q ≡ listed o ++ rest)
  opened None q next = (ops_of q, refl)
  opened (Some op) q next = (ops_of (step_acts.done q None), with_op q op None next)

  pub in_lane : (core : ℕ) → core < config.cores → (rest : List Op) × (ops_of (lane lanes core) ≡ issued_to core ++
      rest)
  in_lane core below =
      let s = served.each core below (nothing_open config 0 config.cores core) in
      let now_open = operation_of (slice_get m.cores core) in
      let told = subst (λ (o : Option (List Step)). Told step_acts (of_core core served.added) now_open o
      (slice_get programs core)) (lane_there lanes config.cores core below) s.told in
      let left = opened now_open told.now told.ahead in
      let done = map (λ (r : Record). r.op) (of_core core served.added) in
      let issued : issued_to core ≡ done ++ listed now_open =
      s.issued ∙ ap (λ (ops : List Op). ops ++ (done ++ listed now_open)) (nothing_issued config.cores core) in (
        left.0,
        performed (lane lanes core) told.now (of_core core served.added) told.performs
            ∙ ap (λ (ops : List Op). done ++ ops) left.1
            ∙ sym (append_assoc done (listed now_open) left.0)
            ∙ ap (λ (ops : List Op). ops ++ left.0) (sym issued),
      )

  follows : (rs : List Record) → AllByRecursion (λ (r : Record). r.core < config.cores) rs → (core : ℕ) →
      Follows 0 (issued_to core) (of_core core rs) → Follows 0 (trace_ops lanes core) (of_core core rs)
  follows rs each core in_order = elim (cases_lt core config.cores) [
    | inl below ↦
        let more = in_lane core below in
        subst (λ (ops : List Op). Follows 0 ops (of_core core rs)) (sym (issued_is lanes core ∙ more.1))
        (Follows-issued 0 (issued_to core) more.0 (of_core core rs) in_order)
    | inr past ↦
        subst (λ (own : List Record). Follows 0 (trace_ops lanes core) own)
        (sym (none_past config.cores core rs each past)) tt
  ]

  module _ (legal : Legal (flat empty) (λ core. slice_index_or m.issued core []) m.records) where
    legal_in_trace : Legal (flat empty) (trace_ops lanes) m.records
    legal_in_trace =
        let each = recursion_from_All (λ (r : Record). r.core < config.cores) legal.arranged
        (All-permutation (λ (r : Record). r.core < config.cores) m.records legal.arranged
        legal.arrangement.same_members (All-from_recursion (λ (r : Record). r.core < config.cores) m.records there)) in
        record {
          numbers = legal.numbers;
          arranged = legal.arranged;
          arrangement = legal.arrangement;
          program_order = λ core. follows legal.arranged each core (legal.program_order core);
          values = legal.values;
        }

    complete : config.cores ≤ 64 → AreComplete m.records
    complete few =
        let P = λ (r : Record). HasItsValue r.op r.received in
        both m.records config.cores few there (recursion_from_All P m.records
        (All-permutation P legal.arranged m.records
        (IsPermutation-sym m.records legal.arranged legal.arrangement.same_members)
        (All-from_recursion P legal.arranged (each_value (flat empty) legal.arranged legal.values))))

  -- a run that came to a consistent machine
  pub is_run : IsConsistent m → m.opening ≡ empty → RisesByNumber m.records → config.cores ≤ 64 →
      (asks : Bool) (driver : Driver) (limit : ℕ) (end : End) →
      LeadsFromZeros asks driver limit config (programs_below lanes config.cores) m programs end →
      IsTraceRun asks driver limit config lanes end m
  is_run consistent opened rising few asks driver limit end led =
      let legal = subst (λ (ws : FinMap nat_cmp ℕ). Legal (flat ws) (λ core. slice_index_or m.issued core []) m.records)
      opened consistent.legal in
      record {
        programs = programs;
        led = led;
        legal = legal;
        legal_in_trace = legal_in_trace legal;
        rising = rising;
        complete = complete legal few;
        left = subst (λ (ws : FinMap nat_cmp ℕ). (arranged : List Record) → Arrangement m.records arranged →
            (word : ℕ) → coherent m word ≡ replay_end (flat ws) (map (λ r. r.op) arranged) word) opened
            consistent.coherent;
      }
