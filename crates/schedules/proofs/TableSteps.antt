-- What each event that a run makes does to the open operations and the records.
use Rattle.std.proofs.Common.{◌≡◌, ◌≢◌, ◌⊎◌, ℕ, ◌+◌, ◌-◌, ◌^◌, nat_lt, Bool, true, false, [], ◌∷◌, ◌++◌}
use Rattle.std.proofs.Common.{length, set, Option, Some, None, Result, Ok, Err, inl, inr, refl, sym, ap, ◌∙◌, subst}
use Rattle.std.proofs.Common.{⊎_elim, arith}
use Rattle.std.proofs.lemmas.List.{length-append}
use Rattle.std.specs.Prelude.{slice_get}
use Rattle.std.proofs.lemmas.Bool.{cases_eq, cond_both}
use Rattle.physiological_order.specs.declared.operation.Op.{Op}
use Rattle.physiological_order.specs.declared.operation.Record.{Record}
use Rattle.network.specs.declared.message.Message.{Message}
use Rattle.timestamp_manager.specs.Lease.{fits}
use Rattle.line_sets.specs.SetTable.{Sets}
use Rattle.private_cache.specs.declared.line_copy.LineCopy.{LineCopy}
use Rattle.private_cache.specs.declared.cache.CacheError.{CacheError}
use Rattle.private_cache.specs.declared.cache.CacheError.TheVariants.{NoRoom, NotHere, Pinned}
use Rattle.private_cache.specs.CopyTable.{copy_of, evicted}
use Rattle.core_pts.specs.declared.attempt.Attempt.{Attempt}
use Rattle.core_pts.specs.declared.attempt.Attempt.TheVariants as attempted
use Rattle.core_pts.specs.declared.attempt.IssueError.{IssueError}
use Rattle.core_pts.specs.declared.attempt.IssueError.TheVariants as not_issued
use Rattle.core_pts.specs.declared.decision.CoreReaction.{CoreReaction}
use Rattle.core_pts.specs.declared.decision.CoreReaction.TheVariants.{Arrives, Grants, Returns}
use Rattle.core_pts.specs.CoreTable as core_table
use Rattle.core_pts.specs.CoreTable.{CoreState, after_reaction, pinned_line, sent_back}
use Rattle.machine_table.specs.declared.event.Event.{Event}
use Rattle.machine_table.specs.declared.event.Event.TheVariants.{Issue, Attempt as AttemptOf, Deliver, EvictCache}
use Rattle.machine_table.specs.declared.event.Event.TheVariants.{EvictBank, Advance}
use Rattle.machine_table.specs.declared.event.Answer.{Answer}
use Rattle.machine_table.specs.declared.event.Answer.TheVariants as answer
use Rattle.machine_table.specs.declared.event.Refusal.TheVariants as refusal
use Rattle.machine_table.specs.Machine.{Machine, operation_of, with_core, with_bank, with_dram}
use Rattle.machine_table.specs.Posted.{can_post, posted}
use Rattle.machine_table.specs.Step as step
use Rattle.machine_table.specs.Step.{Act, Step, Tried, core_step, record_of}
use Rattle.machine_table.specs.Transition.{changed, refused, transition}
use Rattle.machine_table.specs.Answered.{Answered}
use Rattle.machine_table.proofs.Lemmas.{Outcome, refuses, issues, completes, core_steps, bank_steps, dram_steps}
use Rattle.machine_table.proofs.Lemmas.{every_answer, holds, transition_outcome}
use Rattle.machine_theorem.proofs.Lemmas.{get-set_same, get-set_other}
use Rattle.interleaving_core.proofs.Lemmas.{Closes, attempt_closes}

-- a core's open operation
abbrev pub op_at : Machine → ℕ → Option Op
op_at m core = operation_of (slice_get m.cores core)

-- the open operations and the records stay
pub record IsQuiet (m after : Machine) : Type 0 where
  pub ops : (core : ℕ) → op_at after core ≡ op_at m core
  pub records : after.records ≡ m.records

-- a core's open operation is now this, and the others stay
pub record IsOpen (m : Machine) (c : ℕ) (o : Option Op) (after : Machine) : Type 0 where
  pub here : op_at after c ≡ o
  pub there : (core : ℕ) → core ≢ c → op_at after core ≡ op_at m core

-- an operation is opened
pub record Opens (m : Machine) (c : ℕ) (op : Op) (after : Machine) : Type 0 where
  pub opened : IsOpen m c (Some op) after
  pub records : after.records ≡ m.records

-- the open operation is completed, with this record
pub record IsDone (m : Machine) (c : ℕ) (done : Record) (after : Machine) : Type 0 where
  pub core : done.core ≡ c
  pub op : op_at m c ≡ Some done.op
  pub closed : IsOpen m c None after
  pub records : after.records ≡ m.records ++ done ∷ []

abbrev pub is_completion : Answer → Bool
is_completion (answer.Completed done) = true
is_completion _ = false

-- an answer that adds no record isn't a completion
no_record : (m : Machine) (a : Answer) (after : Machine) → Answered m a after → after.records ≡ m.records →
    is_completion a ≡ false
no_record m (answer.Completed done) after says same =
    let more : length m.records ≡ length m.records + 1 =
    ap length (sym same ∙ says.records) ∙ length-append m.records (done ∷ []) in
    absurd (omega (arith, more))
no_record m _ after says same = refl

pub not_completed : (m : Machine) (event : Event) → (transition m event).1.records ≡ m.records →
    is_completion (transition m event).0 ≡ false
not_completed m event same = no_record m (transition m event).0 (transition m event).1 (every_answer m event) same

-- what an issue and an attempt may come to
abbrev pub Issues : Machine → ℕ → Op → Answer × Machine → Type 0
Issues m c op o = IsQuiet m o.1 ⊎ Opens m c op o.1

abbrev pub Tries : Machine → ℕ → Answer × Machine → Type 0
Tries m c o = ((is_completion o.0 ≡ false) × IsQuiet m o.1) ⊎ ((done : Record) × (o.0 ≡ answer.Completed done) ×
    IsDone m c done o.1)

module _ (m : Machine) where
  abbrev Stays : Answer × Machine → Type 0
  Stays o = IsQuiet m o.1

  same : IsQuiet m m
  same = record { ops = λ core. refl; records = refl }

  -- a core in its place
  module _ (c : ℕ) (core : CoreState) (at : slice_get m.cores c ≡ Some core) (new : CoreState) where
    opened : (o : Option Op) → new.open_op ≡ o → IsOpen m c o (with_core m c new)
    opened o is = record {
      here = ap operation_of (get-set_same m.cores c new core at) ∙ is;
      there =
          λ j other. ap operation_of (get-set_other m.cores c j new other);
    }

    kept : new.open_op ≡ core.open_op → IsQuiet m (with_core m c new)
    kept is =
        record {
          ops = λ j. ⊎_elim
              (λ (here : j ≡ c). subst (λ (i : ℕ). operation_of (slice_get (set m.cores c new) i) ≡ operation_of
              (slice_get m.cores i)) (sym here)
              (ap operation_of (get-set_same m.cores c new core at) ∙ is ∙ sym (ap operation_of at)))
              (λ (other : j ≡ c → ⊥). ap operation_of (get-set_other m.cores c j new other))
              (cases_eq j c);
          records = refl;
        }

  -- what is known of the part that a step makes
  abbrev Part : {S : Type 0} → (S → Type 0) → Step S → Type 0
  Part K (step.Makes did consumes sends part) = K part
  Part K _ = Unit {0}

  any_part : {S : Type 0} (s : Step S) → Part (λ (part : S). Unit {0}) s
  any_part (step.Makes did consumes sends part) = tt
  any_part _ = tt

  changed_stays : {S : Type 0} (n : Option ℕ) (put : S → Machine) (K : S → Type 0) →
      ((part : S) → K part → IsQuiet m (put part)) → (s : Step S) → Part K s → Stays (changed m put n s)
  changed_stays n put K puts step.Exhausts is = record { ops = λ core. refl; records = refl }
  changed_stays n put K puts (step.Keeps kept) is = same
  changed_stays n put K puts step.Drops is = record { ops = λ core. refl; records = refl }
  changed_stays n put K puts (step.Makes why consumes sends part) is =
      cond_both (can_post m.config.messages m.mail consumes sends)
      (why, record (put part) { mail = posted m.mail n consumes sends })
      (refused m refusal.NetworkFull) Stays
      (λ t. record { ops = (puts part is).ops; records = (puts part is).records }) (λ t. same)

  -- a core's step completes its open operation, or keeps it
  abbrev Keeps : CoreState → Tried → Type 0
  Keeps core (step.Completes op received ts new) = (core.open_op ≡ Some op) × (new.open_op ≡ None)
  Keeps core (step.Does s) = Part (λ new. new.open_op ≡ core.open_op) s

  attempt_keeps : (core : CoreState) (op : Op) → core.open_op ≡ Some op → (r : Option Attempt × CoreState) →
      Closes r → Keeps core (step.attempted core op r)
  attempt_keeps core op opens (None, new) closes = tt
  attempt_keeps core op opens (Some (attempted.Completed received ts), new) closes = (opens, closes)
  attempt_keeps core op opens (Some (attempted.NeedShared pts version), new) closes = refl
  attempt_keeps core op opens (Some (attempted.NeedExclusive version), new) closes = refl
  attempt_keeps core op opens (Some _, new) closes = tt

  reaction_keeps : (core : CoreState) (line : ℕ) (r : CoreReaction) →
      Part (λ new. new.open_op ≡ core.open_op) (step.reacted (after_reaction core line r))
  reaction_keeps core line (Arrives copy) = refl
  reaction_keeps core line (Grants copy) = refl
  reaction_keeps core line (Returns copy back) = refl
  reaction_keeps core line _ = tt

  copy_keeps : (core : CoreState) (r : Result (Option Message) CacheError × CoreState) →
      r.1.open_op ≡ core.open_op → Part (λ new. new.open_op ≡ core.open_op) (step.copy_evicted r)
  copy_keeps core (Err NotHere, new) is = tt
  copy_keeps core (Err NoRoom, new) is = tt
  copy_keeps core (Err Pinned, new) is = tt
  copy_keeps core (Ok back, new) is = is

  sent_back_kept : (core : CoreState) (line : ℕ) (r : Result LineCopy CacheError × Sets LineCopy) →
      (sent_back core line r).1.open_op ≡ core.open_op
  sent_back_kept core line (Err e, cache) = refl
  sent_back_kept core line (Ok copy, cache) = refl

  step_keeps : (core : CoreState) (act : Act) → Keeps core (core_step core act)
  step_keeps core step.Attempting = by_open core.open_op refl
    where
      by_open : (o : Option Op) → core.open_op ≡ o → Keeps core (step.attempt_open core o)
      by_open None opens = tt
      by_open (Some op) opens = attempt_keeps core op opens (core_table.attempt core) (attempt_closes core)
  step_keeps core (step.Getting message) =
      reaction_keeps core message.line (core_table.decided core message.line message.body)
  step_keeps core (step.Evicting line) =
      copy_keeps core (core_table.evict core line)
      (sent_back_kept core line (evicted core.cache line (pinned_line core) (copy_of core.cache line)))
  step_keeps core step.Advancing =
      cond_both (fits (core.pts + 1)) (Some tt, record core { pts = core.pts + 1 }) (None, core)
      (λ r. Part (λ new. new.open_op ≡ core.open_op) (step.advanced r)) (λ t. refl) (λ t. tt)

  -- an issue
  abbrev Ready : Op → Result (Unit {0}) IssueError × CoreState → Type 0
  Ready op (Ok done, new) = new.open_op ≡ Some op
  Ready op (Err e, new) = Unit {0}

  issue_ready : (core : CoreState) (op : Op) (o : Option Op) → Ready op (core_table.issue_to core op o)
  issue_ready core op (Some other) = tt
  issue_ready core op None = cond_both (nat_lt core.issued (2 ^ 32 - 1))
      (Ok tt, record core { open_op = Some op; issued = core.issued + 1 }) (Err not_issued.TooMany, core) (Ready op)
      (λ t. refl) (λ t. tt)

  -- what an event does
  abbrev Does : Event → Answer × Machine → Type 0
  Does (Issue c op) o = Issues m c op o
  Does (AttemptOf c) o = Tries m c o
  Does _ o = Stays o

  quiet : (event : Event) (o : Answer × Machine) → Stays o → is_completion o.0 ≡ false → Does event o
  quiet (Issue c op) o stays not_done = inl stays
  quiet (AttemptOf c) o stays not_done = inl (not_done, stays)
  quiet _ o stays not_done = stays

  by_outcome : (event : Event) (o : Answer × Machine) → Outcome m event o → (Stays o → is_completion o.0 ≡ false) →
      Does event o
  by_outcome event o (refuses why so) not_done = quiet event _ same (not_done same)
  by_outcome event o (issues c op core after at is) not_done =
      let open_now = opened c core at after (Some op) (subst (Ready op) is (issue_ready core op core.open_op)) in
      inr (record { opened = record { here = open_now.here; there = open_now.there }; records = refl })
  by_outcome event o (completes c op received ts core after at is) not_done =
      let keeps : (core.open_op ≡ Some op) × (after.open_op ≡ None) =
      subst (Keeps core) is (step_keeps core step.Attempting) in
      let closed = opened c core at after None keeps.1 in
      inr (
        record_of c (length m.records) core op received ts,
        refl,
        record {
          core = refl;
          op = ap operation_of at ∙ keeps.0;
          closed = record { here = closed.here; there = closed.there };
          records = refl;
        },
      )
  by_outcome event o (core_steps c core act n s at given is fits) not_done =
      let stays = changed_stays n (with_core m c) (λ new. new.open_op ≡ core.open_op) (kept c core at) s
      (subst (Keeps core) is (step_keeps core act)) in
      quiet event _ stays (not_done stays)
  by_outcome event o (bank_steps b bank act n s at given is fits) not_done =
      let stays = changed_stays n (with_bank m b) (λ part. Unit {0})
      (λ part known. record { ops = λ core. refl; records = refl }) s (any_part s) in
      quiet event _ stays (not_done stays)
  by_outcome event o (dram_steps b lines act n s at given is fits) not_done =
      let stays = changed_stays n (with_dram m b) (λ part. Unit {0})
      (λ part known. record { ops = λ core. refl; records = refl }) s (any_part s) in
      quiet event _ stays (not_done stays)

  does : (event : Event) → Does event (transition m event)
  does event =
      let is = transition_outcome m event in
      by_outcome event _ is (λ stays. no_record m _ _ (holds m event _ is) stays.records)

  pub issue_does : (c : ℕ) (op : Op) → Issues m c op (transition m (Issue c op))
  issue_does c op = does (Issue c op)

  pub attempt_does : (c : ℕ) → Tries m c (transition m (AttemptOf c))
  attempt_does c = does (AttemptOf c)

  pub advance_stays : (c : ℕ) → Stays (transition m (Advance c))
  advance_stays c = does (Advance c)

  pub delivery_stays : (n : ℕ) → Stays (transition m (Deliver n))
  delivery_stays n = does (Deliver n)

  pub cache_eviction_stays : (c line : ℕ) → Stays (transition m (EvictCache c line))
  cache_eviction_stays c line = does (EvictCache c line)

  pub bank_eviction_stays : (b line : ℕ) → Stays (transition m (EvictBank b line))
  bank_eviction_stays b line = does (EvictBank b line)
