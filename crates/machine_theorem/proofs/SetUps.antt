-- No event changes how the machine was set up.
use Rattle.std.proofs.Common.{arith, ◌≡◌, ℕ, List, [], ◌∷◌, length, length-set, Option, refl, rules}
use Rattle.std.proofs.lemmas.Bool.{cond_both}
use Rattle.machine_table.specs.declared.event.Answer.{Answer}
use Rattle.machine_table.specs.declared.event.Event.{Event}
use Rattle.machine_table.specs.declared.event.Refusal.TheVariants as refusal
use Rattle.machine_table.specs.Machine.{Machine, with_core, with_bank, with_dram}
use Rattle.machine_table.specs.Posted.{can_post, posted}
use Rattle.machine_table.specs.Step as step
use Rattle.machine_table.specs.Step.{Step}
use Rattle.machine_table.specs.Transition.{changed, refused, transition}
use Rattle.machine_table.specs.Runs.{after_all}
use Rattle.machine_table.specs.SetUp.{SetUpAs}
use Rattle.machine_table.proofs.Lemmas.{Outcome, refuses, issues, completes, core_steps, bank_steps, dram_steps}
use Rattle.machine_table.proofs.Lemmas.{transition_outcome}

pub set_up_same : (m : Machine) → SetUpAs m m
set_up_same m = record { config = refl; opening = refl; cores = refl }

-- the one is set up as the other, and has as many parts
pub record HasAsMany (m n : Machine) : Type 0 where
  pub config : n.config ≡ m.config
  pub opening : n.opening ≡ m.opening
  pub cores : length n.cores ≡ length m.cores
  pub banks : length n.banks ≡ length m.banks
  pub drams : length n.drams ≡ length m.drams
  pub issued : length n.issued ≡ length m.issued

module _ (m : Machine) where
  -- any machine with these parts
  same : (n : Machine) → n.config ≡ m.config → n.opening ≡ m.opening → length n.cores ≡ length m.cores →
      length n.banks ≡ length m.banks → length n.drams ≡ length m.drams → length n.issued ≡ length m.issued →
      HasAsMany m n
  same n config opening cores banks drams issued = grind (arith, config, opening, cores, banks, drams, issued)

  -- whatever the step is, of a part that is put into the machine
  changed_same : {S : Type 0} (put : S → Machine) → ((part : S) → HasAsMany m (put part)) → (n : Option ℕ)
      (s : Step S) → HasAsMany m (changed m put n s).1
  changed_same put keeps n (step.Makes why consumes sends part) =
      let k = keeps part in
      cond_both (can_post m.config.messages m.mail consumes sends)
      (why, record (put part) { mail = posted m.mail n consumes sends }) (refused m refusal.NetworkFull)
      (λ o. HasAsMany m o.1) (λ e. same _ k.config k.opening k.cores k.banks k.drams k.issued)
      (λ e. same _ refl refl refl refl refl refl)
  changed_same put keeps n step.Exhausts = same _ refl refl refl refl refl refl
  changed_same put keeps n _ = same _ refl refl refl refl refl refl

  pub as_many_parts : (event : Event) (o : Answer × Machine) → Outcome m event o → HasAsMany m o.1
  as_many_parts event o (refuses why so) = same _ refl refl refl refl refl refl
  as_many_parts event o (issues c op core after at is) =
      same _ refl refl (length-set m.cores c after) refl refl (length-set m.issued c _)
  as_many_parts event o (completes c op received ts core after at is) =
      same _ refl refl (length-set m.cores c after) refl refl refl
  as_many_parts event o (core_steps c core act n s at given is fits) =
      changed_same (with_core m c) (λ part. same _ refl refl (length-set m.cores c part) refl refl refl) n s
  as_many_parts event o (bank_steps b bank act n s at given is fits) =
      changed_same (with_bank m b) (λ part. same _ refl refl refl (length-set m.banks b part) refl refl) n s
  as_many_parts event o (dram_steps b lines act n s at given is fits) =
      changed_same (with_dram m b) (λ part. same _ refl refl refl refl (length-set m.drams b part) refl) n s

  pub transition_same : (event : Event) → SetUpAs m (transition m event).1
  transition_same event =
      let k = as_many_parts event _ (transition_outcome m event) in
      record { config = k.config; opening = k.opening; cores = k.cores }

pub after_all_same : (m : Machine) (events : List Event) → SetUpAs m (after_all m events)
after_all_same m [] = set_up_same m
after_all_same m (event ∷ events) = search (rules, transition_same, after_all_same (transition m event).1 events)
