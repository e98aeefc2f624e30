-- An event takes at most the copy that is at risk by it: the one that it evicts, or that of a delivered message's line.
use Rattle.std.proofs.Common.{◌≡◌, ◌≢◌, ◌⊎◌, ℕ, ◌+◌, ◌%◌, ◌<◌, Bool, true, false, cond, List, [], ◌∷◌, length}
use Rattle.std.proofs.Common.{Option, Some, None, Ok, Err, inl, inr, refl, sym, ap, ◌∙◌, subst, arith}
use Rattle.std.specs.Prelude.{slice_get, slice_set}
use Rattle.std.specs.Option.{is_some}
use Rattle.std.proofs.Math.Nat.{mod-lt}
use Rattle.std.proofs.lemmas.Bool.{cases_eq, cond_both, true≢false}
use Rattle.physiological_order.specs.declared.operation.Op.{Op}
use Rattle.network.specs.declared.message.Message.{Message}
use Rattle.network.specs.declared.message.Node.{Node}
use Rattle.network.specs.declared.message.Node.TheVariants.{Core, Bank, Dram}
use Rattle.network.specs.declared.part.Reaction.{Reaction}
use Rattle.network.specs.NumberedMessages.{at_number}
use Rattle.line_sets.specs.SetTable.{Sets, look}
use Rattle.line_sets.proofs.Lemmas.{look-put_same, look-put_other, look-put_within_other, look-drop_line_other}
use Rattle.line_sets.proofs.Lemmas.{length-put, length-put_within, length-drop_line}
use Rattle.private_cache.specs.declared.line_copy.LineCopy.{LineCopy}
use Rattle.private_cache.specs.declared.cache.CacheError.TheVariants as not_left
use Rattle.private_cache.specs.CopyTable as copy_table
use Rattle.private_cache.specs.CopyTable.{copy_of, set_of, with_used, with_changed, without_copy}
use Rattle.core_pts.specs.declared.attempt.Attempt.{Attempt}
use Rattle.core_pts.specs.declared.attempt.Attempt.TheVariants as tries
use Rattle.core_pts.specs.declared.attempt.IssueError.TheVariants as not_issued
use Rattle.core_pts.specs.declared.decision.CoreReaction.{CoreReaction}
use Rattle.core_pts.specs.declared.decision.CoreReaction.TheVariants.{Arrives, Grants, Returns, Holds, TooLate}
use Rattle.core_pts.specs.OnCopy.{serves, time_of}
use Rattle.core_pts.specs.CoreTable as core_table
use Rattle.core_pts.specs.CoreTable.{CoreState, core_has_case, is_pinned, pinned_line}
use Rattle.llc_bank.specs.BankTable.{bank_has_case, bank_table}
use Rattle.dram_mts.specs.Table.{dram_has_case, dram_table}
use Rattle.machine_table.specs.declared.event.Event.{Event}
use Rattle.machine_table.specs.declared.event.Event.TheVariants as event
use Rattle.machine_table.specs.declared.event.Answer.{Answer}
use Rattle.machine_table.specs.declared.event.Refusal.TheVariants as refusal
use Rattle.machine_table.specs.Machine.{Machine, with_core, with_bank, with_dram}
use Rattle.machine_table.specs.Posted.{can_post, posted}
use Rattle.machine_table.specs.Step as step
use Rattle.machine_table.specs.Step.{Step, Exhausts, Keeps, Drops, Makes, Tried, Completes, Does}
use Rattle.machine_table.specs.Transition.{changed, deliver_to, if_there, gets, issued, on_event, refused, transition}
use Rattle.machine_table.specs.Transition.{tried}
use Rattle.machine_theorem.proofs.Lemmas.{get-set_other, get-set_same}
use Rattle.event_counts.specs.Losses.{at_risk, copy_at, copy_for, copy_under, has_copy}

-- where a copy is, there are sets
some_sets : (sets : List (List (ℕ × LineCopy))) (k : ℕ) → is_some (look sets (k % length sets) k) ≡ true →
    0 < length sets
some_sets [] k there = absurd (true≢false (sym there))
some_sets (s ∷ sets) k there = omega arith

-- the copy of one line stays in a cache where another line is changed or leaves
module _ (cache : Sets LineCopy) (l k : ℕ) (there : is_some (copy_of cache k) ≡ true) where
  within : set_of cache l < length cache.sets
  within = mod-lt l (some_sets cache.sets k there)

  used : k ≢ l → (copy : LineCopy) → is_some (copy_of (with_used cache l copy) k) ≡ true
  used ne copy = rw (
    length-put cache.sets (set_of cache l) l copy,
    look-put_other cache.sets (set_of cache l) l (k % length cache.sets) k copy within ne,
  ) there

  -- the copy itself may be used, too
  used_any : (copy : LineCopy) → is_some (copy_of (with_used cache l copy) k) ≡ true
  used_any copy = elim (cases_eq k l) [
    | inl e ↦ rw (
      e,
      length-put cache.sets (set_of cache l) l copy,
      look-put_same cache.sets (set_of cache l) l copy within,
    ) refl
    | inr ne ↦ used ne copy
  ]

  changed_one : k ≢ l → (copy : LineCopy) → is_some (copy_of (with_changed cache l copy) k) ≡ true
  changed_one ne copy = rw (
    length-put_within cache.sets (set_of cache l) l copy,
    look-put_within_other cache.sets (set_of cache l) l (k % length cache.sets) k copy within ne,
  ) there

  dropped_one : k ≢ l → is_some (copy_of (without_copy cache l) k) ≡ true
  dropped_one ne = rw (
    length-drop_line cache.sets (set_of cache l) l,
    look-drop_line_other cache.sets (set_of cache l) l (k % length cache.sets) k within ne,
  ) there

-- the copy of one line stays in a core
module _ (core : CoreState) (k : ℕ) where
  abbrev Stays : CoreState → Type 0
  Stays after = is_some (copy_of core.cache k) ≡ true → is_some (copy_of after.cache k) ≡ true

  abbrev StepStays : Step CoreState → Type 0
  StepStays (Makes answer consumes sends part) = Stays part
  StepStays _ = Unit {0}

  abbrev TriedStays : Tried → Type 0
  TriedStays (Completes op received ts after) = Stays after
  TriedStays (Does step) = StepStays step

  evicting : (l : ℕ) → k ≢ l → StepStays (step.copy_evicted (core_table.evict core l))
  evicting l ne = by (copy_of core.cache l)
    where
      by_pin : (copy : LineCopy) (pinned : Bool) → StepStays (step.copy_evicted (core_table.sent_back core l
          (cond pinned (Err not_left.Pinned, core.cache) (Ok copy, without_copy core.cache l))))
      by_pin copy true = tt
      by_pin copy false = λ there. dropped_one core.cache l k there ne

      by : (o : Option LineCopy) → StepStays (step.copy_evicted (core_table.sent_back core l
          (copy_table.evicted core.cache l (pinned_line core) o)))
      by None = tt
      by (Some copy) = by_pin copy (is_pinned (pinned_line core) l)

  getting : (message : Message) → k ≢ message.line →
      StepStays (step.reacted (core_table.core_table core message))
  getting message ne = by (core_table.decided core message.line message.body)
    where
      by : (r : CoreReaction) → StepStays (step.reacted (core_table.after_reaction core message.line r))
      by (Arrives copy) = λ there. used core.cache message.line k there ne copy
      by (Grants copy) = λ there. changed_one core.cache message.line k there ne copy
      by (Returns None sent) = λ there. dropped_one core.cache message.line k there ne
      by (Returns (Some copy) sent) = λ there. changed_one core.cache message.line k there ne copy
      by Holds = tt
      by TooLate = tt
      by _ = tt

  -- an attempt uses a copy, or leaves the cache
  tries_stay : Stays (core_table.attempt core).1
  tries_stay = by (core.open_op)
    where
      at_time : (op : Op) (copy : LineCopy) (ts : Option ℕ) → Stays (core_table.completed_at core op copy ts).1
      at_time op copy None = λ there. there
      at_time op copy (Some ts) = λ there. used_any core.cache (core_table.line_of core op) k there _

      on_copy : (op : Op) (o : Option LineCopy) → Stays (core_table.attempt_on core op o).1
      on_copy op None = λ there. there
      on_copy op (Some copy) = cond_both (serves op core.pts copy)
          (core_table.completed_at core op copy (time_of core.private_write core.pts op copy))
          (Some (core_table.attempt_unserved core op copy.wts), core) (λ o. Stays o.1)
          (λ e. at_time op copy (time_of core.private_write core.pts op copy)) (λ e there. there)

      by : (o : Option Op) → Stays (core_table.attempt_open core o).1
      by None = λ there. there
      by (Some op) = on_copy op (copy_of core.cache (core_table.line_of core op))

  attempting : TriedStays (step.attempt_open core core.open_op)
  attempting = by (core.open_op)
    where
      made : (op : Op) (r : Option Attempt × CoreState) → Stays r.1 → TriedStays (step.attempted core op r)
      made op (None, after) stays = tt
      made op (Some (tries.Completed received ts), after) stays = stays
      made op (Some (tries.NeedShared pts version), after) stays = λ there. there
      made op (Some (tries.NeedExclusive version), after) stays = λ there. there
      made op (Some tries.NoRoom, after) stays = tt
      made op (Some tries.Waiting, after) stays = tt
      made op (Some tries.Idle, after) stays = tt

      by : (o : Option Op) → TriedStays (step.attempt_open core o)
      by None = tt
      by (Some op) = made op (core_table.attempt core) tries_stay

  advancing : StepStays (step.advanced (core_table.advance core))
  advancing = by _
    where
      by : (b : Bool) → StepStays (step.advanced (cond b (Some tt, record core { pts = core.pts + 1 }) (None, core)))
      by true = λ there. there
      by false = tt

-- the copy of one line stays at one core of a machine
module _ (m : Machine) (c0 l0 : ℕ) where
  abbrev Kept : Machine → Type 0
  Kept after = has_copy (slice_get m.cores c0) l0 ≡ true → has_copy (slice_get after.cores c0) l0 ≡ true

  put_kept : (c : ℕ) (core part : CoreState) → slice_get m.cores c ≡ Some core → (c0 ≡ c → Stays core l0 part) →
      Kept (with_core m c part)
  put_kept c core part at stays there = elim (cases_eq c0 c) [
    | inl e ↦
        let was = subst (λ o. has_copy o l0 ≡ true) at (subst (λ i. has_copy (slice_get m.cores i) l0 ≡ true) e there)
        in
        subst (λ i. has_copy (slice_get (slice_set m.cores c part) i) l0 ≡ true) (sym e)
        (subst (λ o. has_copy o l0 ≡ true) (sym (get-set_same m.cores c part core at)) (stays e was))
    | inr ne ↦ subst (λ o. has_copy o l0 ≡ true) (sym (get-set_other m.cores c c0 part ne)) there
  ]

  step_kept : (c : ℕ) (core : CoreState) (n : Option ℕ) (s : Step CoreState) → slice_get m.cores c ≡ Some core →
      (c0 ≡ c → StepStays core l0 s) → Kept (changed m (with_core m c) n s).1
  step_kept c core n (Makes answer consumes sends part) at stays =
      cond_both (can_post m.config.messages m.mail consumes sends)
      (answer, record (with_core m c part) { mail = posted m.mail n consumes sends }) (refused m refusal.NetworkFull)
      (λ o. Kept o.1) (λ e. put_kept c core part at stays) (λ e there. there)
  step_kept c core n _ at stays = λ there. there

  -- other parts change no core
  other_kept : {S : Type 0} (put : S → Machine) → ((part : S) → (put part).cores ≡ m.cores) → (n : Option ℕ)
      (s : Step S) → Kept (changed m put n s).1
  other_kept put same n (Makes answer consumes sends part) =
      cond_both (can_post m.config.messages m.mail consumes sends)
      (answer, record (put part) { mail = posted m.mail n consumes sends }) (refused m refusal.NetworkFull)
      (λ o. Kept o.1)
      (λ e there. subst (λ cores. has_copy (slice_get cores c0) l0 ≡ true) (sym (same part)) there)
      (λ e there. there)
  other_kept put same n _ = λ there. there

  there_kept : {X : Type 0} (o : Option X) (does : X → Answer × Machine) →
      ((x : X) → o ≡ Some x → Kept (does x).1) → Kept (if_there m o does).1
  there_kept None does kept = λ there. there
  there_kept (Some x) does kept = kept x refl

  gets_kept : {S : Type 0} (put : S → Machine) (n : ℕ) (has : Bool) (reaction : Option (Reaction × S)) →
      Kept (changed m put (Some n) (step.reacted reaction)).1 → Kept (gets m put n has reaction).1
  gets_kept put n true reaction kept = kept
  gets_kept put n false reaction kept = λ there. there

  -- the copy stays, or it is this one
  abbrev StaysOr : Machine → Option (ℕ × ℕ) → Type 0
  StaysOr after copy =
      has_copy (slice_get m.cores c0) l0 ≡ true →
      (has_copy (slice_get after.cores c0) l0 ≡ true) ⊎ (copy ≡ Some (c0, l0))

  one_of : (c l : ℕ) (after : Machine) → ((c0 ≡ c → l0 ≢ l) → Kept after) → StaysOr after (copy_at m c l)
  one_of c l after kept there = elim (cases_eq c0 c) [
    | inl e ↦ elim (cases_eq l0 l) [
      | inl f ↦ inr (subst (λ i. copy_at m i l ≡ Some (c0, l0)) e (subst (λ j. copy_at m c0 j ≡ Some (c0, l0)) f
          (ap (λ b. cond b (Some (c0, l0)) None) there)))
      | inr ne ↦ inl (kept (λ same. ne) there)
    ]
    | inr ne ↦ inl (kept (λ same. absurd (ne same)) there)
  ]

  issue_kept : (c : ℕ) (op : Op) (core : CoreState) → slice_get m.cores c ≡ Some core → (o : Option Op) →
      Kept (issued m c op (core_table.issue_to core op o)).1
  issue_kept c op core at (Some other) = λ there. there
  issue_kept c op core at None = by _
    where
      by : (b : Bool) → Kept (issued m c op (cond b
          (Ok tt, record core { open_op = Some op; issued = core.issued + 1 }) (Err not_issued.TooMany, core))).1
      by true = put_kept c core (record core { open_op = Some op; issued = core.issued + 1 }) at (λ e there. there)
      by false = λ there. there

  tried_kept : (c : ℕ) (core : CoreState) → slice_get m.cores c ≡ Some core → (t : Tried) → TriedStays core l0 t →
      Kept (tried m c core t).1
  tried_kept c core at (Completes op received ts after) stays = put_kept c core after at (λ e. stays)
  tried_kept c core at (Does s) stays = step_kept c core None s at (λ e. stays)

  delivered : (n : ℕ) (message : Message) (to : Node) →
      StaysOr (deliver_to m n message to).1 (copy_for m message.line to)
  delivered n message (Core c) =
      one_of c message.line (deliver_to m n message (Core c)).1 (λ other. there_kept (slice_get m.cores c)
      (λ core. gets m (with_core m c) n (core_has_case core message) (core_table.core_table core message))
      (λ core at. gets_kept (with_core m c) n (core_has_case core message) (core_table.core_table core message)
      (step_kept c core (Some n) (step.reacted (core_table.core_table core message)) at
      (λ e. getting core l0 message (other e)))))
  delivered n message (Bank b) = λ there. inl (there_kept (slice_get m.banks b)
      (λ bank. gets m (with_bank m b) n (bank_has_case bank message) (bank_table bank message))
      (λ bank at. gets_kept (with_bank m b) n (bank_has_case bank message) (bank_table bank message)
      (other_kept (with_bank m b) (λ part. refl) (Some n) (step.reacted (bank_table bank message)))) there)
  delivered n message (Dram b) = λ there. inl (there_kept (slice_get m.drams b)
      (λ lines. gets m (with_dram m b) n (dram_has_case lines message) (dram_table lines message))
      (λ lines at. gets_kept (with_dram m b) n (dram_has_case lines message) (dram_table lines message)
      (other_kept (with_dram m b) (λ part. refl) (Some n) (step.reacted (dram_table lines message)))) there)

  event_takes : (e : Event) → StaysOr (on_event m e).1 (at_risk m e)
  event_takes (event.Issue c op) = λ there. inl (there_kept (slice_get m.cores c) _ (λ core at.
      issue_kept c op core at core.open_op) there)
  event_takes (event.Attempt c) = λ there. inl (there_kept (slice_get m.cores c) _ (λ core at.
      tried_kept c core at (step.attempt_open core core.open_op) (attempting core l0)) there)
  event_takes (event.Advance c) = λ there. inl (there_kept (slice_get m.cores c) _ (λ core at.
      step_kept c core None _ at (λ e. advancing core l0)) there)
  event_takes (event.EvictBank b l) = λ there. inl (there_kept (slice_get m.banks b) _ (λ bank at.
      other_kept (with_bank m b) (λ part. refl) None _) there)
  event_takes (event.EvictCache c l) =
      one_of c l (on_event m (event.EvictCache c l)).1 (λ other. there_kept (slice_get m.cores c) _ (λ core at.
      step_kept c core None (step.copy_evicted (core_table.evict core l)) at (λ e. evicting core l0 l (other e))))
  event_takes (event.Deliver n) = by (at_number n m.mail.messages)
    where
      by : (o : Option Message) →
          StaysOr (if_there m o (λ message. deliver_to m n message message.to)).1 (copy_under m o)
      by None = λ there. inl there
      by (Some message) = delivered n message message.to

  -- what is there before an event and not after it is at risk by it
  pub taken : (e : Event) → has_copy (slice_get m.cores c0) l0 ≡ true →
      has_copy (slice_get (transition m e).1.cores c0) l0 ≡ false → at_risk m e ≡ Some (c0, l0)
  taken e there gone = elim (stays there) [
    | inl still ↦ absurd (true≢false (sym still ∙ gone))
    | inr is ↦ is
  ]
    where
      stays : StaysOr (transition m e).1 (at_risk m e)
      stays = cond_both m.is_stopped (refused m refusal.Stopped) (on_event m e) (λ o. StaysOr o.1 (at_risk m e))
          (λ stopped there. inl there) (λ goes. event_takes e)
