-- What each event comes to: the one walk over the machine's table that the proofs about events stand on.
use Rattle.std.proofs.Common.{◌≡◌, ◌≢◌, ℕ, Bool, true, false, cond, List, [], ◌∷◌, ◌++◌, Option, Some, None}
use Rattle.std.proofs.Common.{Result, Ok, Err, refl, sym, ap, ◌∙◌, subst}
use Rattle.std.proofs.lemmas.Bool.{cond_both, cond-true}
use Rattle.std.specs.Ordering.{nat_cmp}
use Rattle.std.specs.FinMap.{FinMap}
use Rattle.std.specs.Prelude.{slice_get, slice_set, slice_index_or, unwrap_or}
use Rattle.physiological_order.specs.declared.operation.Op.{Op}
use Rattle.network.specs.declared.message.Node.{Node}
use Rattle.network.specs.declared.message.Node.TheVariants.{Core, Bank, Dram}
use Rattle.network.specs.declared.message.Message.{Message}
use Rattle.network.specs.NumberedMessages.{at_number}
use Rattle.core_pts.specs.declared.attempt.IssueError.{IssueError}
use Rattle.core_pts.specs.declared.attempt.IssueError.TheVariants as not_issued
use Rattle.core_pts.specs.CoreTable as core_table
use Rattle.core_pts.specs.CoreTable.{CoreState, core_has_case}
use Rattle.network.specs.declared.part.Reaction.{Reaction}
use Rattle.llc_bank.specs.BankTable.{BankState, bank_has_case, bank_table}
use Rattle.dram_mts.specs.Table.{dram_has_case, dram_table}
use Rattle.machine_table.specs.declared.event.Event.{Event}
use Rattle.machine_table.specs.declared.event.Event.TheVariants.{Issue, Attempt as AttemptOf, Deliver, EvictCache}
use Rattle.machine_table.specs.declared.event.Event.TheVariants.{EvictBank, Advance}
use Rattle.machine_table.specs.declared.event.Answer.{Answer}
use Rattle.machine_table.specs.declared.event.Answer.TheVariants.{Issued, Idle}
use Rattle.machine_table.specs.declared.event.Refusal.{Refusal}
use Rattle.machine_table.specs.declared.event.Refusal.TheVariants as refusal
use Rattle.machine_table.specs.Answered.{RefusedSo}
use Rattle.machine_table.specs.Machine.{Machine, with_core, with_bank, with_dram}
use Rattle.machine_table.specs.Step as step
use Rattle.machine_table.specs.Step.{Act, Step, Tried, Completes, Does, message_of, core_step, bank_step, dram_step}
use Rattle.machine_table.specs.Transition.{refused, changed, issued, if_there, gets, deliver_to, on_event, transition}
use Rattle.machine_table.specs.Transition.{tried}
use Rattle.machine_table.proofs.FittingAnswers.{Fits, FitsTried, reaction_fits, copy_fits, entry_fits, advance_fits}
use Rattle.machine_table.proofs.FittingAnswers.{attempt_fits}

-- a part gets the message of this number, which goes to it, and has a case for it; or it gets none
abbrev pub IsGiven : Machine → Node → (Message → Bool) → Option Message → Option ℕ → Type 0
IsGiven m to has_case None None = Unit {0}
IsGiven m to has_case (Some message) (Some n) =
    (at_number n m.mail.messages ≡ Some message) × (message.to ≡ to) × (has_case message ≡ true)
IsGiven m to has_case _ _ = ⊥

pub data Outcome (m : Machine) : Event → Answer × Machine → Type 0 where
  -- nothing changes
  refuses : {event : Event} (why : Refusal) → RefusedSo m why m → Outcome m event (refused m why)
  -- a core is given its next operation
  issues : (c : ℕ) (op : Op) (core after : CoreState) → slice_get m.cores c ≡ Some core →
      core_table.issue core op ≡ (Ok tt, after) → Outcome m (Issue c op) (
        Issued,
        record (with_core m c after) {
          issued = slice_set m.issued c (slice_index_or m.issued c [] ++ op ∷ []);
        },
      )
  -- a core completes its open operation
  completes : (c : ℕ) (op : Op) (received : Option ℕ) (ts : ℕ) (core after : CoreState) →
      slice_get m.cores c ≡ Some core → core_step core step.Attempting ≡ Completes op received ts after →
      Outcome m (AttemptOf c) (tried m c core (Completes op received ts after))
  -- a core takes another step, or a bank or the DRAM behind a bank takes one
  core_steps : {event : Event} (c : ℕ) (core : CoreState) (act : Act) (n : Option ℕ) (step : Step CoreState) →
      slice_get m.cores c ≡ Some core → IsGiven m (Core c) (core_has_case core) (message_of act) n →
      core_step core act ≡ Does step → Fits step → Outcome m event (changed m (with_core m c) n step)
  bank_steps : {event : Event} (b : ℕ) (bank : BankState) (act : Act) (n : Option ℕ) (step : Step BankState) →
      slice_get m.banks b ≡ Some bank → IsGiven m (Bank b) (bank_has_case bank) (message_of act) n →
      bank_step bank act ≡ step → Fits step → Outcome m event (changed m (with_bank m b) n step)
  dram_steps : {event : Event} (b : ℕ) (lines : FinMap nat_cmp (List ℕ)) (act : Act) (n : Option ℕ)
      (step : Step (FinMap nat_cmp (List ℕ))) → slice_get m.drams b ≡ Some lines →
      IsGiven m (Dram b) (dram_has_case lines) (message_of act) n → dram_step lines act ≡ step →
      Fits step → Outcome m event (changed m (with_dram m b) n step)

-- the event of an act of a core, and of a bank; the number is that of the message that it gets
abbrev pub core_event : ℕ → Act → Option ℕ → Event
core_event c step.Attempting n = AttemptOf c
core_event c (step.Getting message) n = Deliver (unwrap_or n 0)
core_event c (step.Evicting line) n = EvictCache c line
core_event c step.Advancing n = Advance c

abbrev pub bank_event : ℕ → Act → Option ℕ → Event
bank_event b (step.Evicting line) n = EvictBank b line
bank_event b _ n = Deliver (unwrap_or n 0)

module _ (m : Machine) where
  -- by what is there: a part of the number, or a message
  on : {X : Type 0} {event : Event} (o : Option X) (does : X → Answer × Machine) →
      ((x : X) → o ≡ Some x → Outcome m event (does x)) → Outcome m event (if_there m o does)
  on None does some = refuses refusal.NoSuch refl
  on (Some x) does some = some x refl

  if_case : {event : Event} (has : Bool) (o : Answer × Machine) → (has ≡ true → Outcome m event o) →
      Outcome m event (cond has o (refused m refusal.NoSuch))
  if_case true o is = is refl
  if_case false o is = refuses refusal.NoSuch refl

  issue_is : (c : ℕ) (op : Op) (core : CoreState) → slice_get m.cores c ≡ Some core →
      (r : Result (Unit {0}) IssueError × CoreState) → core_table.issue core op ≡ r →
      Outcome m (Issue c op) (issued m c op r)
  issue_is c op core at (Err not_issued.Busy, after) is = refuses refusal.Busy refl
  issue_is c op core at (Err not_issued.TooMany, after) is = refuses refusal.TooMany refl
  issue_is c op core at (Ok done, after) is = issues c op core after at is

  attempt_is : (c : ℕ) (core : CoreState) → slice_get m.cores c ≡ Some core → (t : Tried) →
      core_step core step.Attempting ≡ t → Outcome m (AttemptOf c) (tried m c core t)
  attempt_is c core at (Completes op received ts after) is = completes c op received ts core after at is
  attempt_is c core at (Does s) is =
      core_steps c core step.Attempting None s at tt is (subst FitsTried is (attempt_fits core core.open_op))

  delivery_is : (n : ℕ) (message : Message) → at_number n m.mail.messages ≡ Some message → (to : Node) →
      message.to ≡ to → Outcome m (Deliver n) (deliver_to m n message to)
  delivery_is n message found (Core c) to =
      on (slice_get m.cores c) _ (λ core at. if_case (core_has_case core message) _
      (λ has. core_steps c core (step.Getting message) (Some n) _ at (found, to, has) refl (reaction_fits _)))
  delivery_is n message found (Bank b) to =
      on (slice_get m.banks b) _ (λ bank at. if_case (bank_has_case bank message) _
      (λ has. bank_steps b bank (step.Getting message) (Some n) _ at (found, to, has) refl (reaction_fits _)))
  delivery_is n message found (Dram b) to =
      on (slice_get m.drams b) _ (λ lines at. if_case (dram_has_case lines message) _
      (λ has. dram_steps b lines (step.Getting message) (Some n) _ at (found, to, has) refl (reaction_fits _)))

  pub outcome : (event : Event) → Outcome m event (on_event m event)
  outcome (Issue c op) = on (slice_get m.cores c) _ (λ core at. issue_is c op core at _ refl)
  outcome (AttemptOf c) = on (slice_get m.cores c) _ (λ core at. attempt_is c core at _ refl)
  outcome (Deliver n) =
      on (at_number n m.mail.messages) _ (λ message found. delivery_is n message found message.to refl)
  outcome (EvictCache c line) =
      on (slice_get m.cores c) _ (λ core at. core_steps c core (step.Evicting line) None _ at tt refl (copy_fits _))
  outcome (EvictBank b line) =
      on (slice_get m.banks b) _ (λ bank at. bank_steps b bank (step.Evicting line) None _ at tt refl (entry_fits _))
  outcome (Advance c) =
      on (slice_get m.cores c) _ (λ core at. core_steps c core step.Advancing None _ at tt refl (advance_fits _))

  -- also where the machine is stopped
  pub transition_outcome : (event : Event) → Outcome m event (transition m event)
  transition_outcome event =
      cond_both m.is_stopped (refused m refusal.Stopped) (on_event m event) (Outcome m event)
      (λ e. refuses refusal.Stopped refl) (λ e. outcome event)

  pub finds : {X : Type 0} {o : Option X} {x : X} (does : X → Answer × Machine) → o ≡ Some x →
      if_there m o does ≡ does x
  finds does at = ap (λ o. if_there m o does) at

  -- a part that is there, and has a case for the message
  pub delivers : {S : Type 0} (n : ℕ) (message : Message) (to : Node) → at_number n m.mail.messages ≡ Some message →
      message.to ≡ to → (put : S → Machine) (o : Option S) (part : S) → o ≡ Some part → (has : S → Message → Bool)
      (reacts : S → Message → Option (Reaction × S)) → has part message ≡ true →
      deliver_to m n message to ≡ if_there m o (λ x. gets m put n (has x message) (reacts x message)) →
      on_event m (Deliver n) ≡ changed m put (Some n) (step.reacted (reacts part message))
  delivers n message to number goes put o part at has reacts case is =
      finds (λ x. deliver_to m n x x.to) number ∙ ap (deliver_to m n message) goes ∙ is
      ∙ finds (λ x. gets m put n (has x message) (reacts x message)) at
      ∙ cond-true (has part message) (changed m put (Some n) (step.reacted (reacts part message)))
      (refused m refusal.NoSuch) case

  -- the step that is taken where no operation is completed
  abbrev done_in : Tried → Step CoreState
  done_in (Completes op received ts core) = step.Exhausts
  done_in (Does done) = done

  -- what happens at the event of a part's act
  pub core_acts : (c : ℕ) (core : CoreState) → slice_get m.cores c ≡ Some core → (act : Act) (n : Option ℕ)
      (done : Step CoreState) → IsGiven m (Core c) (core_has_case core) (message_of act) n →
      core_step core act ≡ Does done → on_event m (core_event c act n) ≡ changed m (with_core m c) n done
  core_acts c core at step.Attempting None done given is =
      finds (λ x. tried m c x (core_step x step.Attempting)) at ∙ ap (tried m c core) is
  core_acts c core at (step.Getting message) (Some n) done given is =
      delivers n message (Core c) given.0 given.1 (with_core m c) (slice_get m.cores c) core at core_has_case
      core_table.core_table given.2 refl ∙ ap (λ t. changed m (with_core m c) (Some n) (done_in t)) is
  core_acts c core at (step.Evicting line) None done given is =
      finds (λ x. changed m (with_core m c) None (done_in (core_step x (step.Evicting line)))) at
      ∙ ap (λ t. changed m (with_core m c) None (done_in t)) is
  core_acts c core at step.Advancing None done given is =
      finds (λ x. changed m (with_core m c) None (done_in (core_step x step.Advancing))) at
      ∙ ap (λ t. changed m (with_core m c) None (done_in t)) is
  core_acts c core at _ _ done given is = absurd given

  pub bank_acts : (b : ℕ) (bank : BankState) → slice_get m.banks b ≡ Some bank → (act : Act) (n : Option ℕ)
      (done : Step BankState) → IsGiven m (Bank b) (bank_has_case bank) (message_of act) n →
      bank_step bank act ≡ done → done ≢ step.Keeps Idle →
      on_event m (bank_event b act n) ≡ changed m (with_bank m b) n done
  bank_acts b bank at (step.Getting message) (Some n) done given is does =
      delivers n message (Bank b) given.0 given.1 (with_bank m b) (slice_get m.banks b) bank at bank_has_case bank_table
      given.2 refl ∙ ap (changed m (with_bank m b) (Some n)) is
  bank_acts b bank at (step.Evicting line) None done given is does =
      finds (λ x. changed m (with_bank m b) None (bank_step x (step.Evicting line))) at
      ∙ ap (changed m (with_bank m b) None) is
  bank_acts b bank at step.Attempting n done given is does = absurd (does (sym is))
  bank_acts b bank at step.Advancing n done given is does = absurd (does (sym is))
  bank_acts b bank at _ _ done given is does = absurd given

  pub dram_acts : (b : ℕ) (lines : FinMap nat_cmp (List ℕ)) → slice_get m.drams b ≡ Some lines → (act : Act)
      (n : Option ℕ) (done : Step (FinMap nat_cmp (List ℕ))) →
      IsGiven m (Dram b) (dram_has_case lines) (message_of act) n → dram_step lines act ≡ done →
      done ≢ step.Keeps Idle → on_event m (Deliver (unwrap_or n 0)) ≡ changed m (with_dram m b) n done
  dram_acts b lines at (step.Getting message) (Some n) done given is does =
      delivers n message (Dram b) given.0 given.1 (with_dram m b) (slice_get m.drams b) lines at dram_has_case
      dram_table given.2 refl ∙ ap (changed m (with_dram m b) (Some n)) is
  dram_acts b lines at (step.Getting message) None done given is does = absurd given
  dram_acts b lines at _ n done given is does = absurd (does (sym is))
