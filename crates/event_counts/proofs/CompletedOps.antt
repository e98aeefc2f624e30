-- The operations of a core that completed are counted by kind, and each as a hit or as a miss.
use Rattle.std.proofs.Common.{◌≡◌, ◌≢◌, ⊎_elim, ℕ, zero, suc, ◌+◌, ◌-◌, ◌^◌, ◌<◌, ◌≤◌, true, false, eqb, List, []}
use Rattle.std.proofs.Common.{◌∷◌, ◌++◌, length}
use Rattle.std.specs.Ordering.{nat_cmp}
use Rattle.std.specs.FinMap.{FinMap}
use Rattle.std.proofs.Common.{Option, Some, None, refl, sym, ap, ◌∙◌, subst, arith, replicate, length-append}
use Rattle.std.specs.List.{slice_get}
use Rattle.std.specs.Option.{option_map}
use Rattle.std.proofs.lemmas.Bool.Decides.{nat_tests, eqb_tells}
use Rattle.physiological_order.specs.declared.operation.Op.{Op}
use Rattle.physiological_order.specs.declared.operation.Op.TheVariants.{Load, Store, Swap}
use Rattle.physiological_order.specs.declared.operation.Record.{Record}
use Rattle.physiological_order.specs.Order.{of_core}
use Rattle.network.specs.declared.message.Message.{Message}
use Rattle.network.specs.declared.message.Node.{Node}
use Rattle.network.specs.NumberedMessages.{at_number}
use Rattle.machine_table.specs.declared.config.Config.{Config}
use Rattle.machine_table.specs.declared.event.Event.{Event}
use Rattle.machine_table.specs.declared.event.Answer.{Answer}
use Rattle.machine_table.specs.declared.event.Answer.TheVariants as answer
use Rattle.machine_table.specs.declared.event.Refusal.{Refusal}
use Rattle.machine_table.specs.declared.event.Refusal.TheVariants as refusal
use Rattle.machine_table.specs.Answered.{Answered, RefusedSo}
use Rattle.machine_table.specs.Machine.{Machine}
use Rattle.machine_table.specs.Opening.{at_start}
use Rattle.machine_table.specs.Runs.{after_all}
use Rattle.machine_table.specs.Transition.{transition}
use Rattle.machine_table.proofs.Lemmas.{every_answer}
use Rattle.protocol.proofs.Lemmas.{of_core-own, of_core-other}
use Rattle.machine_theorem.proofs.Lemmas.{get-set_other, get-set_same}
use Rattle.event_counts.specs.declared.cause.Cause.{Cause}
use Rattle.event_counts.specs.declared.cause.Cause.TheVariants.{Cold, Evicted, Recalled, Ended, Shared}
use Rattle.event_counts.specs.declared.part_counts.CoreCounts.{CoreCounts}
use Rattle.event_counts.specs.Counts.{EventCounts, HasCompleted, at_core, changed_at, completed, dropped, held}
use Rattle.event_counts.specs.Counts.{hits_and_misses, more, no_core_counts, operations, sent, with_end, with_one}
use Rattle.event_counts.specs.Counts.{with_op}
use Rattle.event_counts.specs.Losses.{Lost, at_risk}
use Rattle.schedules.specs.Watches.{watched}
use Rattle.event_counts.specs.Counting.{Counter, answered, counted, counter_events, counter_seen, evicted, goes_to}
use Rattle.event_counts.specs.Counting.{is_row, no_counter, requested, with_message}
use Rattle.event_counts.proofs.KeptCounts.{IsKept, Leaves, dropped_keeps, evicted_keeps, followed, held_keeps}
use Rattle.event_counts.proofs.KeptCounts.{requested_keeps, row_counts, sent_keeps}

-- one core
more_is : (n : ℕ) → n < 2 ^ 64 - 1 → more n ≡ n + 1
more_is n few = grind (arith, nat_tests, few)

op_rises : (op : Op) (x : CoreCounts) → operations x < 2 ^ 64 - 1 → operations (with_op x op) ≡ operations x + 1
op_rises (Load a) x few = let q = more_is x.loads (omega (arith, few)) in omega (arith, q)
op_rises (Store a v) x few = let q = more_is x.stores (omega (arith, few)) in omega (arith, q)
op_rises (Swap a v) x few = let q = more_is x.swaps (omega (arith, few)) in omega (arith, q)

op_keeps : (op : Op) (x : CoreCounts) → hits_and_misses (with_op x op) ≡ hits_and_misses x
op_keeps (Load a) x = refl
op_keeps (Store a v) x = refl
op_keeps (Swap a v) x = refl

end_rises : (o : Option Cause) (x : CoreCounts) → hits_and_misses x < 2 ^ 64 - 1 →
    hits_and_misses (with_end x o) ≡ hits_and_misses x + 1
end_rises None x few = let q = more_is x.hits (omega (arith, few)) in omega (arith, q)
end_rises (Some Cold) x few = let q = more_is x.cold (omega (arith, few)) in omega (arith, q)
end_rises (Some Evicted) x few = let q = more_is x.evicted (omega (arith, few)) in omega (arith, q)
end_rises (Some Recalled) x few = let q = more_is x.recalled (omega (arith, few)) in omega (arith, q)
end_rises (Some Ended) x few = let q = more_is x.ended (omega (arith, few)) in omega (arith, q)
end_rises (Some Shared) x few = let q = more_is x.shared (omega (arith, few)) in omega (arith, q)

end_keeps : (o : Option Cause) (x : CoreCounts) → operations (with_end x o) ≡ operations x
end_keeps None x = refl
end_keeps (Some Cold) x = refl
end_keeps (Some Evicted) x = refl
end_keeps (Some Recalled) x = refl
end_keeps (Some Ended) x = refl
end_keeps (Some Shared) x = refl

-- one operation more
one_more : (done : ℕ) (r : Record) (o : Option CoreCounts) → done < 2 ^ 64 - 1 → HasCompleted done o →
    HasCompleted (done + 1) (option_map (completed r) o)
one_more done r None few has = has
one_more done r (Some x) few has =
    let q0 = end_rises x.asked x (omega (arith, few, has.1)) in let q1 = end_keeps x.asked x in
    let q2 = op_rises r.op (with_end x x.asked) (omega (arith, few, has.0, q1)) in
    let q3 = op_keeps r.op (with_end x x.asked) in
    (omega (arith, q1, q2, has.0), omega (arith, q0, q3, has.1))

-- a change that leaves the sums
left_so : (done : ℕ) (change : CoreCounts → CoreCounts) → Leaves change → (o : Option CoreCounts) →
    HasCompleted done o → HasCompleted done (option_map change o)
left_so done change leaves None has = has
left_so done change leaves (Some x) has = ((leaves x).0 ∙ has.0, (leaves x).1 ∙ has.1)

-- one core of all
changed_here : {X : Type 0} (xs : List X) (a : ℕ) (change : X → X) →
    slice_get (changed_at xs a change) a ≡ option_map change (slice_get xs a)
changed_here {X = X} xs a change = by (slice_get xs a) refl
  where
    by : (o : Option X) → slice_get xs a ≡ o → slice_get (with_one xs a change o) a ≡ option_map change o
    by None is = is
    by (Some x) is = get-set_same xs a (change x) x is

changed_there : {X : Type 0} (xs : List X) (a c : ℕ) (change : X → X) → c ≢ a →
    slice_get (changed_at xs a change) c ≡ slice_get xs c
changed_there {X = X} xs a c change ne = by (slice_get xs a)
  where
    by : (o : Option X) → slice_get (with_one xs a change o) c ≡ slice_get xs c
    by None = refl
    by (Some x) = get-set_other xs a c (change x) ne

module _ (c done : ℕ) where
  -- counts of which the core has completed so many
  abbrev pub Done : EventCounts → Type 0
  Done n = HasCompleted done (slice_get n.cores c)

  leaves : (n : EventCounts) (a : ℕ) (change : CoreCounts → CoreCounts) → Leaves change → Done n →
      Done (at_core n a change)
  leaves n a change same has = ⊎_elim
      (λ e. subst (λ a. HasCompleted done (slice_get (changed_at n.cores a change) c)) e.1
      (subst (HasCompleted done) (sym (changed_here n.cores c change))
      (left_so done change same (slice_get n.cores c) has)))
      (λ e. subst (HasCompleted done) (sym (changed_there n.cores a c change e.1)) has)
      (eqb_tells c a)

  done_kept : IsKept Done
  done_kept = record {
    told = λ n events held dropped has. has;
    at_cores = leaves;
    at_banks = λ n bank change has. has;
  }

  message_leaves : (n : EventCounts) (m : Machine) (e : Event) (o : Option Message) → Done n →
      Done (with_message n m e o)
  message_leaves n m e None has = has
  message_leaves n m e (Some x) has =
      followed Done done_kept (sent n x) m e x (sent_keeps Done done_kept (λ n next has. has) n x has)

-- how many records a core has
abbrev records_of : ℕ → Machine → ℕ
records_of c m = length (of_core c m.records)

-- what an answer leaves of the records
refused_same : (m : Machine) (why : Refusal) (after : Machine) → RefusedSo m why after → after.records ≡ m.records
refused_same m refusal.Exhausted after is = ap (λ (n : Machine). n.records) is
refused_same m refusal.NoMemory after is = absurd is
refused_same m _ after is = ap (λ (n : Machine). n.records) is

-- the counts after an answer, with at most one record more
abbrev Counts : ℕ → Machine → Machine → EventCounts → Type 0
Counts c m after n = Done c (records_of c after) n × (records_of c after ≤ records_of c m + 1)

module _ (c : ℕ) (m after : Machine) (lost : Lost) (to : Option Node) (e : Event) (n : EventCounts)
    (few : records_of c m < 2 ^ 64 - 1) (has : Done c (records_of c m) n) where
  same : after.records ≡ m.records → (k : EventCounts) → Done c (records_of c m) k → Counts c m after k
  same is k so =
      let many : records_of c after ≡ records_of c m = ap (λ rs. length (of_core c rs)) is in
      (subst (λ done. Done c done k) (sym many) so, omega (arith, many))

  completes : (r : Record) → after.records ≡ m.records ++ r ∷ [] → Counts c m after (at_core n r.core (completed r))
  completes r is = ⊎_elim own other (eqb_tells r.core c)
    where
      own : (eqb r.core c ≡ true) × (r.core ≡ c) → Counts c m after (at_core n r.core (completed r))
      own e =
          let many : records_of c after ≡ records_of c m + 1 = ap (λ rs. length (of_core c rs)) is
          ∙ ap length (of_core-own c m.records r e.1) ∙ length-append (of_core c m.records) (r ∷ []) in
          let here = subst (λ core. slice_get (changed_at n.cores core (completed r)) c
          ≡ option_map (completed r) (slice_get n.cores c)) (sym e.1) (changed_here n.cores c (completed r)) in (
            subst (λ done. Done c done (at_core n r.core (completed r))) (sym many)
                (subst (HasCompleted (records_of c m + 1)) (sym here)
                (one_more (records_of c m) r (slice_get n.cores c) few has)),
            omega (arith, many),
          )

      other : (eqb r.core c ≡ false) × (r.core ≢ c) → Counts c m after (at_core n r.core (completed r))
      other e =
          let many : records_of c after ≡ records_of c m = ap (λ rs. length (of_core c rs)) is
          ∙ ap length (of_core-other c m.records r e.1) in (
            subst (λ done. Done c done (at_core n r.core (completed r))) (sym many)
                (subst (HasCompleted (records_of c m))
                (sym (changed_there n.cores r.core c (completed r) (λ is. e.1 (sym is))))
                has),
            omega (arith, many),
          )

  answer_counts : (a : Answer) → Answered m a after → Counts c m after (answered n lost to e a after)
  answer_counts (answer.Refused why) is = same (refused_same m why after is) n has
  answer_counts (answer.Completed r) is = completes r is.records
  answer_counts answer.Waiting is = same (ap (λ (k : Machine). k.records) is) n has
  answer_counts answer.Idle is = same (ap (λ (k : Machine). k.records) is) n has
  answer_counts answer.Held is = same (ap (λ (k : Machine). k.records) is) (held n to)
      (held_keeps (Done c (records_of c m)) (done_kept c (records_of c m)) n to has)
  answer_counts answer.Issued is = same is.records n has
  answer_counts answer.Requested is =
      same is.records (requested n lost after e)
      (requested_keeps (Done c (records_of c m)) (done_kept c (records_of c m)) n lost after e has)
  answer_counts answer.Delivered is = same is.records n has
  answer_counts answer.Dropped is =
      same is.records (dropped n to) (dropped_keeps (Done c (records_of c m)) (done_kept c (records_of c m)) n to has)
  answer_counts answer.Started is = same is.records n has
  answer_counts answer.Evicted is =
      same is.records (evicted n e) (evicted_keeps (Done c (records_of c m)) (done_kept c (records_of c m)) n e has)
  answer_counts answer.Recalled is = same is.records n has
  answer_counts answer.Advanced is = same is.records n has

event_counts : (c : ℕ) (m : Machine) (e : Event) (k : Counter) → records_of c m < 2 ^ 64 - 1 →
    Done c (records_of c m) k.counts → let next = transition m e in
    Counts c m next.1 (counter_seen k m e next.0 next.1).counts
event_counts c m e k few has =
    let next = transition m e in let o = at_number k.counts.next next.1.mail.messages in
    let told = answer_counts c m next.1 k.lost (goes_to m e) e (record k.counts { events = more k.counts.events }) few
    has next.0 (every_answer m e) in (
      subst (Done c (records_of c next.1)) (sym (row_counts (counted k (goes_to m e) (at_risk m e) e next.0 next.1)
          (is_row k.every (length next.1.records) next.0)))
          (message_leaves c (records_of c next.1) _ next.1 e o told.0),
      told.1,
    )

all_done : (c : ℕ) (m : Machine) (events : List Event) (k : Counter) →
    records_of c m + length events < 2 ^ 64 → Done c (records_of c m) k.counts →
    Done c (records_of c (after_all m events)) (watched counter_events k m events).counts
all_done c m [] k few has = has
all_done c m (e ∷ events) k few has =
    let next = transition m e in let one = event_counts c m e k (omega (arith, few)) has in
    all_done c next.1 events (counter_seen k m e next.0 next.1) (omega (arith, few, one.1)) one.0

-- nothing is counted yet
at_zeros : (cores c : ℕ) → c < cores → slice_get (replicate cores no_core_counts) c ≡ Some no_core_counts
at_zeros zero c there = absurd (omega (arith, there))
at_zeros (suc cores) zero there = refl
at_zeros (suc cores) (suc c) there = at_zeros cores c (omega (arith, there))

pub all_completed : (config : Config) (memory : FinMap nat_cmp ℕ) (cores banks c : ℕ) (every : Option ℕ)
    (events : List Event) → c < cores → length events < 2 ^ 64 → let m = at_start config memory in
    HasCompleted (length (of_core c (after_all m events).records))
    (slice_get (watched counter_events (no_counter cores banks every) m events).counts.cores c)
all_completed config memory cores banks c every events there few =
    all_done c (at_start config memory) events (no_counter cores banks every) (omega (arith, few))
    (subst (HasCompleted 0) (sym (at_zeros cores c there)) (refl, refl))
