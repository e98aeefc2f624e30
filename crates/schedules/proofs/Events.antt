-- One event that is answered and noted, as an action.
use Rattle.std.proofs.Common.{◌≡◌, ◌≢◌, ℕ, ◌≤◌, Bool, true, false, ◌||◌, List, [], ◌∷◌, ◌++◌, Option, Some, Ok, Err}
use Rattle.std.proofs.Common.{IsTrue, cond, inl, inr, refl, sym, ap, ◌∙◌, subst, arith}
use Rattle.std.specs.Prelude.{is_some}
use Rattle.std.specs.Int.{bit_at}
use Rattle.std.proofs.lemmas.Bool.{cases_eq, true≢false}
use Rattle.machine_table.specs.declared.event.Event.{Event}
use Rattle.machine_table.specs.declared.event.Event.TheVariants.{Attempt, Deliver, EvictCache, EvictBank, Advance}
use Rattle.machine_table.specs.declared.event.Answer.{Answer}
use Rattle.machine_table.specs.declared.event.Answer.TheVariants.{Completed, Refused}
use Rattle.machine_table.specs.declared.event.Refusal.TheVariants.{Exhausted as TimesEnd}
use Rattle.machine_table.specs.Machine.{Machine}
use Rattle.machine_table.specs.Transition.{transition}
use Rattle.interleaving_core.specs.StepAnswers.{asks_memory}
use Rattle.programs.specs.declared.ends.End.{End}
use Rattle.programs.specs.declared.ends.End.TheVariants as end
use Rattle.programs.specs.Acts.{Acts, done_in, next_in, next_of}
use Rattle.schedules.specs.Parts.{Action, Does, Advances, Standing, one, after_action, after_answer, events_of_one}
use Rattle.schedules.specs.Parts.{is_no_room, programs_told, told_advance}
use Rattle.schedules.specs.Runs.{AsksMemory}
use Rattle.schedules.specs.Notes.{IsNoted, Noted, Point, at, standing, IsMade, IsTold, Reaches}
use Rattle.schedules.specs.Watches.{Watches, AreSeen}
use Rattle.schedules.specs.declared.log.Log.{Log}
use Rattle.schedules.proofs.TableSteps.{IsQuiet, is_completion, not_completed, delivery_stays}
use Rattle.schedules.proofs.TableSteps.{cache_eviction_stays, bank_eviction_stays}
use Rattle.schedules.proofs.ServiceSteps.{done_there}

-- no program is told anything
pub none_told : {P W : Type 0} (acts : Acts P) (programs : List P) (log : Log W) → IsTold acts programs log programs log
none_told acts programs log = record { watcher = refl; has_progressed = refl; asked = λ asked. asked }

-- a program is told what its step received
module _ {P W : Type 0} (acts : Acts P) (programs : List P) (log : Log W) (c : ℕ) (received : Option ℕ) where
  still : (core : ℕ) → core ≢ c → is_some (next_in acts programs core)
      ≡ is_some (next_in acts (done_in acts programs c received) core)
  still core other =
      ap (λ (o : Option P). is_some (next_of acts o)) (sym (done_there acts programs c received core other))

  pub one_told : (after : Log W) → after ≡ record log { unfinished = after.unfinished } →
      bit_at after.unfinished c ≡ cond (is_some (next_in acts (done_in acts programs c received) c)) 1 0 →
      ((i : ℕ) → i ≢ c → bit_at after.unfinished i ≡ bit_at log.unfinished i) →
      IsTold acts programs log (done_in acts programs c received) after
  one_told after noted here elsewhere = record {
    watcher = ap (λ (l : Log W). l.watcher) noted;
    has_progressed = ap (λ (l : Log W). l.has_progressed) noted;
    asked = λ asked core below. elim (cases_eq core c) [
      | inl e ↦ rw e here
      | inr other ↦ elsewhere core other ∙ asked core below ∙ ap (λ b. cond b 1 0) (still core other)
    ];
  }

  pub far_told : 64 ≤ c → IsTold acts programs log (done_in acts programs c received) log
  far_told far = record {
    watcher = refl;
    has_progressed = refl;
    asked = λ asked core below. asked core below
        ∙ ap (λ b. cond b 1 0) (still core (λ e. absurd (omega (arith, e, below, far))));
  }

module _ {P W : Type 0} (acts : Acts P) (watches : Watches W) (m : Machine) (programs : List P) (log : Log W) where
  abbrev Here : Point P W
  Here = at m programs log

  abbrev here : Standing P
  here = standing Here false

  module _ (action : Action) (event : Event) (tells : Answer → List P)
      (leads : after_action acts here action ≡ after_answer here tells (transition m event))
      (makes : events_of_one acts here action ≡ event ∷ [])
      (asks : (keeps : Bool) → IsTrue (keeps || asks_memory m event) → AsksMemory keeps m (action ∷ []))
      (untold : tells (Refused TimesEnd) ≡ programs) where
    shown : (answer : Answer) (after : Machine) (after_log : Log W) → (answer, after) ≡ transition m event →
        IsNoted watches m log event answer after after_log →
        AreSeen watches (watches.seen log.watcher) m (events_of_one acts here action ++ []) after after_log.watcher
    shown answer after after_log is noted =
        subst (λ (l : List Event). AreSeen watches (watches.seen log.watcher) m (l ++ []) after after_log.watcher)
        (sym makes) (record {
          leads = ap (λ (x : Answer × Machine). x.1) is;
          seen = noted.seen
              ∙ ap (λ (x : Answer × Machine). watches.sees (watches.seen log.watcher) m event x.0 x.1) is;
        })

    was_made : (answer : Answer) (after : Machine) (told : List P) (noted_log last : Log W) →
        Noted watches m log event (Ok answer) after noted_log → told ≡ tells answer →
        IsTold acts programs noted_log told last → IsMade acts watches (action ∷ []) Here (at after told last) false
    was_made answer after told noted_log last noted is asks_on = record {
      leads = leads ∙ ap (after_answer here tells) (sym noted.0)
          ∙ rw (is, noted.1, asks_on.has_progressed, noted.2.has_progressed) refl;
      seen = subst (AreSeen watches (watches.seen log.watcher) m (events_of_one acts here action ++ []) after)
          (sym asks_on.watcher) (shown answer after noted_log noted.0 noted.2);
      asked = λ asked. asks_on.asked (rw noted.2.unfinished asked);
    }

    was_not : (e : End) (after : Machine) (after_log : Log W) → Noted watches m log event (Err e) after after_log →
        Reaches acts watches (one action) Here (Some e) (at after programs after_log)
    was_not end.Exhausted after after_log noted = record {
      leads = leads ∙ ap (after_answer here tells) (sym noted.0) ∙ rw (untold, noted.1.has_progressed) refl;
      seen = shown (Refused TimesEnd) after after_log noted.0 noted.1;
      asked = λ asked. rw noted.1.unfinished asked;
    }
    was_not end.NoMemory after after_log noted = record {
      made = [];
      left = action ∷ [];
      actions_are = refl;
      is_made = record {
        leads = rw (noted.0, noted.1.has_progressed) refl;
        seen = record { leads = noted.0; seen = noted.1.seen };
        asked = λ asked. rw noted.1.unfinished asked;
      };
      asks = subst (λ n. AsksMemory watches.asks n (action ∷ [])) (sym noted.0) (asks watches.asks noted.2);
    }
    was_not _ after after_log noted = absurd noted

  module _ (event : Event) where
    pub event_made : (answer : Answer) (after : Machine) (told : List P) (noted_log last : Log W) →
        Noted watches m log event (Ok answer) after noted_log → told ≡ programs_told acts programs answer →
        IsTold acts programs noted_log told last → IsMade acts watches (Does event ∷ []) Here (at after told last) false
    event_made = was_made (Does event) event (programs_told acts programs) refl refl (λ keeps asks. asks) refl

    pub event_not_made : (e : End) (after : Machine) (after_log : Log W) →
        Noted watches m log event (Err e) after after_log →
        Reaches acts watches (one (Does event)) Here (Some e) (at after programs after_log)
    event_not_made = was_not (Does event) event (programs_told acts programs) refl refl (λ keeps asks. asks) refl

    -- an event that completes nothing
    quiet_made : IsQuiet m (transition m event).1 → (answer : Answer) (after : Machine) (after_log : Log W) →
        Noted watches m log event (Ok answer) after after_log →
        IsMade acts watches (Does event ∷ []) Here (at after programs after_log) false
    quiet_made quiet answer after after_log noted =
        event_made answer after programs after_log after_log noted
        (untold answer (subst (λ (x : Answer × Machine). is_completion x.0 ≡ false) (sym noted.0)
        (not_completed m event quiet.records))) (none_told acts programs after_log)
      where
        untold : (a : Answer) → is_completion a ≡ false → programs ≡ programs_told acts programs a
        untold (Completed done) silent = absurd (true≢false silent)
        untold _ silent = refl

  pub delivery_made : (number : ℕ) (answer : Answer) (after : Machine) (after_log : Log W) →
      Noted watches m log (Deliver number) (Ok answer) after after_log →
      IsMade acts watches (Does (Deliver number) ∷ []) Here (at after programs after_log) false
  delivery_made number = quiet_made (Deliver number) (delivery_stays m number)

  pub copy_gone : (core line : ℕ) (answer : Answer) (after : Machine) (after_log : Log W) →
      Noted watches m log (EvictCache core line) (Ok answer) after after_log →
      IsMade acts watches (Does (EvictCache core line) ∷ []) Here (at after programs after_log) false
  copy_gone core line = quiet_made (EvictCache core line) (cache_eviction_stays m core line)

  pub line_gone : (bank line : ℕ) (answer : Answer) (after : Machine) (after_log : Log W) →
      Noted watches m log (EvictBank bank line) (Ok answer) after after_log →
      IsMade acts watches (Does (EvictBank bank line) ∷ []) Here (at after programs after_log) false
  line_gone bank line = quiet_made (EvictBank bank line) (bank_eviction_stays m bank line)

  pub no_place_found : (core : ℕ) (answer : Answer) (after : Machine) (after_log : Log W) →
      Noted watches m log (Attempt core) (Ok answer) after after_log → is_no_room answer ≡ true →
      IsMade acts watches (Does (Attempt core) ∷ []) Here (at after programs after_log) false
  no_place_found core answer after after_log noted full =
      event_made (Attempt core) answer after programs after_log after_log noted (untold answer full)
      (none_told acts programs after_log)
    where
      untold : (a : Answer) → is_no_room a ≡ true → programs ≡ programs_told acts programs a
      untold (Completed done) is = absurd (true≢false (sym is))
      untold _ is = refl

  module _ (core : ℕ) where
    pub advance_made : (answer : Answer) (after : Machine) (told : List P) (noted_log last : Log W) →
        Noted watches m log (Advance core) (Ok answer) after noted_log → told ≡ told_advance acts programs core answer →
        IsTold acts programs noted_log told last →
        IsMade acts watches (Advances core ∷ []) Here (at after told last) false
    advance_made =
        was_made (Advances core) (Advance core) (told_advance acts programs core) refl refl (λ keeps asks. asks) refl

    pub advance_not_made : (e : End) (after : Machine) (after_log : Log W) →
        Noted watches m log (Advance core) (Err e) after after_log →
        Reaches acts watches (one (Advances core)) Here (Some e) (at after programs after_log)
    advance_not_made =
        was_not (Advances core) (Advance core) (told_advance acts programs core) refl refl (λ keeps asks. asks) refl
