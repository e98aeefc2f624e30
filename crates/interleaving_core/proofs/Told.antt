-- What an event issues and sends, by the machine's table.
use Rattle.std.proofs.Common.{◌≡◌, ◌⊎◌, inl, inr, ℕ, ◌++◌, get_or, set, Bool, true, false, cond, eqb}
use Rattle.std.proofs.Common.{[], ◌∷◌, length, Option, Some, None, refl, sym, ap, ◌∙◌, subst, arith}
use Rattle.std.proofs.lemmas.Bool.Decides.{nat_tests, eqb_tells}
use Rattle.std.proofs.lemmas.Grind.{common_steps}
use Rattle.std.specs.List.{slice_get}
use Rattle.std.proofs.lemmas.Bool.{cond_both}
use Rattle.std.proofs.lemmas.List.{append-nil, get_or-set_same, get_or-set_other}
use Rattle.std.proofs.lemmas.Option.{slice_get_within}
use Rattle.physiological_order.specs.declared.operation.Op.{Op}
use Rattle.network.specs.declared.message.Message.{Message}
use Rattle.network.specs.Mail.{Mail, sent}
use Rattle.core_pts.specs.CoreTable.{CoreState}
use Rattle.machine_table.specs.declared.event.Event.{Event}
use Rattle.machine_table.specs.declared.event.Event.TheVariants.{Issue, Deliver}
use Rattle.machine_table.specs.declared.event.Answer.{Answer}
use Rattle.machine_table.specs.declared.event.Answer.TheVariants.{Refused}
use Rattle.machine_table.specs.declared.event.Refusal.{Refusal}
use Rattle.machine_table.specs.declared.event.Refusal.TheVariants as refusal
use Rattle.machine_table.specs.Machine.{Machine, with_core, with_bank, with_dram}
use Rattle.machine_table.specs.Posted.{left, posted}
use Rattle.machine_table.specs.Step as step
use Rattle.machine_table.specs.Step.{Step}
use Rattle.machine_table.specs.Transition.{changed, transition}
use Rattle.machine_table.proofs.Lemmas.{Outcome, refuses, issues, completes, core_steps, bank_steps, dram_steps}
use Rattle.machine_table.proofs.Lemmas.{transition_outcome, Fits, Keeping, Making, waits, requests}
use Rattle.interleaving_core.specs.IssuedOps.{issued_at_event}
use Rattle.interleaving_core.specs.StepAnswers.{Stepped}

-- no message is sent, or one, perhaps after one was taken
abbrev pub SendsOne : Mail → Mail → Type 0
SendsOne mail after =
    ((after.next ≡ mail.next) × (after.counts ≡ mail.counts))
    ⊎ ((before : Mail) × (message : Message) × (before.next ≡ mail.next) × (before.counts ≡ mail.counts) ×
    (after ≡ sent before message))

-- no operation is issued
abbrev Stays : Machine → Machine → Type 0
Stays m after = (after.issued ≡ m.issued) × SendsOne m.mail after.mail

posted_one : (mail : Mail) (n : Option ℕ) (consumes : Bool) (sends : Option Message) →
    SendsOne mail (posted mail n consumes sends)
posted_one mail n true None = inl (refl, refl)
posted_one mail n false None = inl (refl, refl)
posted_one mail n true (Some reply) = inr (left mail n, reply, refl, refl, refl)
posted_one mail n false (Some message) = inr (mail, message, refl, refl, refl)

module _ (m : Machine) where
  same : Stays m m
  same = (refl, inl (refl, refl))

  -- a step of a part that is put into the machine
  steps : {S : Type 0} (put : S → Machine) → ((part : S) → (put part).issued ≡ m.issued) → (n : Option ℕ)
      (s : Step S) → Stays m (changed m put n s).1
  steps put keeps n step.Exhausts = same
  steps put keeps n (step.Keeps why) = same
  steps put keeps n step.Drops = (refl, inl (refl, refl))
  steps put keeps n (step.Makes why consumes sends part) =
      grind (arith, nat_tests, common_steps, cond_both, posted_one, same)

  -- what an event issues and sends
  pub record Told (event : Event) (outcome : Answer × Machine) : Type 0 where
    pub issues : length m.issued ≡ length m.cores → (core : ℕ) → get_or outcome.1.issued core [] ≡ get_or m.issued
        core [] ++ issued_at_event core event outcome.0
    pub sends : SendsOne m.mail outcome.1.mail

  stayed : (event : Event) (outcome : Answer × Machine) → ((core : ℕ) → issued_at_event core event outcome.0 ≡ []) →
      Stays m outcome.1 → Told event outcome
  stayed event outcome none stays = record {
    issues = λ long core. ap (λ lists. get_or lists core []) stays.0
        ∙ sym (ap (λ ops. get_or m.issued core [] ++ ops) (none core) ∙ append-nil (get_or m.issued core []));
    sends = stays.1;
  }

  -- an operation is added to the list of its core
  module _ (c : ℕ) (op : Op) (core : CoreState) (here : slice_get m.cores c ≡ Some core) where
    added : (k : ℕ) → length m.issued ≡ length m.cores → get_or (set m.issued c (get_or m.issued c [] ++ op ∷ [])) k
        [] ≡ get_or m.issued k [] ++ cond (eqb c k) (op ∷ []) []
    added k long =
        let q0 = get_or m.issued c in let q1 = get_or-set_same m.issued c (get_or m.issued c [] ++ op ∷ []) in
        let q2 = slice_get_within m.cores c core here in let q3 = get_or m.issued k in
        let q4 = get_or-set_other m.issued c k (get_or m.issued c [] ++ op ∷ []) in
        let q5 = append-nil (get_or m.issued k []) in let q6 = eqb_tells c k in
        grind (arith, nat_tests, q0, q1, q2, q3, q4, q5, q6)

  -- a refused event issues nothing
  refused_issues : (event : Event) (why : Refusal) (core : ℕ) → issued_at_event core event (Refused why) ≡ []
  refused_issues (Issue c op) why core = refl
  refused_issues (Deliver n) why core = refl
  refused_issues _ why core = refl

  -- nor does a step of a part
  kept_issues : (event : Event) (why : Answer) → Keeping why → (core : ℕ) → issued_at_event core event why ≡ []
  kept_issues (Issue c op) why waits core = refl
  kept_issues (Issue c op) why _ core = refl
  kept_issues _ why keeping core = refl

  made_issues : (event : Event) (why : Answer) → Making why → (core : ℕ) → issued_at_event core event why ≡ []
  made_issues (Issue c op) why requests core = refl
  made_issues (Issue c op) why _ core = refl
  made_issues _ why making core = refl

  step_issues : {S : Type 0} (event : Event) (put : S → Machine) (n : Option ℕ) (s : Step S) → Fits s → (core : ℕ) →
      issued_at_event core event (changed m put n s).0 ≡ []
  step_issues event put n step.Exhausts fits core = refused_issues event refusal.Exhausted core
  step_issues event put n (step.Keeps why) fits core = kept_issues event why fits core
  step_issues (Issue c op) put n step.Drops fits core = refl
  step_issues _ put n step.Drops fits core = refl
  step_issues event put n (step.Makes why consumes sends part) fits core =
      grind (arith, nat_tests, common_steps, cond_both, made_issues, refused_issues)

  outcome_told : (event : Event) (o : Answer × Machine) → Outcome m event o → Told event o
  outcome_told event o (refuses why so) = stayed event _ (refused_issues event why) same
  outcome_told event o (issues c op core after at is) =
      record { issues = λ long k. added c op core at k long; sends = inl (refl, refl) }
  outcome_told event o (completes c op received ts core after at is) =
      stayed event _ (λ k. refl) (refl, inl (refl, refl))
  outcome_told event o (core_steps c core act n s at given is fits) =
      stayed event _ (step_issues event (with_core m c) n s fits) (steps (with_core m c) (λ part. refl) n s)
  outcome_told event o (bank_steps b bank act n s at given is fits) =
      stayed event _ (step_issues event (with_bank m b) n s fits) (steps (with_bank m b) (λ part. refl) n s)
  outcome_told event o (dram_steps b lines act n s at given is fits) =
      stayed event _ (step_issues event (with_dram m b) n s fits) (steps (with_dram m b) (λ part. refl) n s)

  transition_told : (event : Event) → Told event (transition m event)
  transition_told event = outcome_told event _ (transition_outcome m event)

  pub step_told : (event : Event) (answer : Answer) (after : Machine) → Stepped m event answer after →
      Told event (answer, after)
  step_told event answer after (inl is) = subst (Told event) (sym is) (transition_told event)
  step_told event answer after (inr none) = grind (arith, nat_tests, common_steps, refused_issues, same)
