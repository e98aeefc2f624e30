-- Each answer of the table keeps its word.
use Rattle.std.proofs.Common.{◌≡◌, ℕ, true, cond, Option, refl, ap}
use Rattle.std.proofs.lemmas.Bool.{cond_both}
use Rattle.machine_table.specs.declared.event.Event.{Event}
use Rattle.machine_table.specs.declared.event.Answer.{Answer}
use Rattle.machine_table.specs.declared.event.Answer.TheVariants as answer
use Rattle.machine_table.specs.declared.event.Refusal.TheVariants as refusal
use Rattle.machine_table.specs.Machine.{Machine, with_core, with_bank, with_dram}
use Rattle.machine_table.specs.Posted.{can_post, posted}
use Rattle.machine_table.specs.Step as step
use Rattle.machine_table.specs.Step.{Step}
use Rattle.machine_table.specs.Transition.{refused, changed, on_event, transition}
use Rattle.machine_table.specs.Answered.{Answered, GoesOn}
use Rattle.machine_table.proofs.FittingAnswers.{Fits, Keeping, Making, waits, requests}
use Rattle.machine_table.proofs.Outcomes.{Outcome, refuses, issues, completes, core_steps, bank_steps, dram_steps}
use Rattle.machine_table.proofs.Outcomes.{transition_outcome}

module _ (m : Machine) where
  goes_on : (after : Machine) → after.records ≡ m.records → after.is_stopped ≡ m.is_stopped → GoesOn m after
  goes_on after records runs = record { records = records; runs = runs }

  -- what is answered to a step that changes nothing, and to one that changes its part
  kept_holds : (why : Answer) → Keeping why → Answered m why m
  kept_holds why waits = refl
  kept_holds why _ = refl

  made_holds : (why : Answer) (after : Machine) → Making why → GoesOn m after → Answered m why after
  made_holds why after requests goes = goes
  made_holds why after _ goes = goes

  -- a step of a part that is put into the machine
  changed_holds : {S : Type 0} (put : S → Machine) → ((part : S) → (put part).records ≡ m.records) →
      ((part : S) → (put part).is_stopped ≡ m.is_stopped) → (n : Option ℕ) (s : Step S) → Fits s →
      Answered m (changed m put n s).0 (changed m put n s).1
  changed_holds put same runs n step.Exhausts fits = refl
  changed_holds put same runs n (step.Keeps why) fits = kept_holds why fits
  changed_holds put same runs n step.Drops fits = goes_on _ refl refl
  changed_holds put same runs n (step.Makes why consumes sends part) fits =
      cond_both (can_post m.config.messages m.mail consumes sends)
      (why, record (put part) { mail = posted m.mail n consumes sends }) (refused m refusal.NetworkFull)
      (λ o. Answered m o.0 o.1) (λ e. made_holds why _ fits (goes_on _ (same part) (runs part))) (λ e. refl)

  pub holds : (event : Event) (o : Answer × Machine) → Outcome m event o → Answered m o.0 o.1
  holds event o (refuses why so) = so
  holds event o (issues c op core after at is) = goes_on _ refl refl
  holds event o (completes c op received ts core after at is) = record { records = refl; number = refl; runs = refl }
  holds event o (core_steps c core act n s at given is fits) =
      changed_holds (with_core m c) (λ part. refl) (λ part. refl) n s fits
  holds event o (bank_steps b bank act n s at given is fits) =
      changed_holds (with_bank m b) (λ part. refl) (λ part. refl) n s fits
  holds event o (dram_steps b lines act n s at given is fits) =
      changed_holds (with_dram m b) (λ part. refl) (λ part. refl) n s fits

  pub every_answer : (event : Event) → Answered m (transition m event).0 (transition m event).1
  every_answer event = holds event _ (transition_outcome m event)

pub once_stopped : (m : Machine) (event : Event) → m.is_stopped ≡ true →
    transition m event ≡ (answer.Refused refusal.Stopped, m)
once_stopped m event e = ap (λ b. cond b (refused m refusal.Stopped) (on_event m event)) e
