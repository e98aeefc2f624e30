-- A run by a policy, from a machine that events made of one that opened with a good set-up, serves the cores.
use Rattle.std.proofs.Common.{◌≡◌, ℕ, Bool, true, false, List, ◌++◌, length, refl, sym, ap, ◌∙◌, subst}
use Rattle.std.specs.Ordering.{nat_cmp}
use Rattle.std.specs.FinMap.{FinMap}
use Rattle.machine_table.specs.declared.config.Config.{Config}
use Rattle.machine_table.specs.declared.event.Event.{Event}
use Rattle.machine_table.specs.Machine.{Machine}
use Rattle.machine_table.specs.Opening.{at_start}
use Rattle.machine_table.specs.Runs.{after_all}
use Rattle.machine_table.specs.SetUp.{is_good}
use Rattle.machine_theorem.specs.Consistency.{IsConsistent}
use Rattle.machine_theorem.specs.Service.{AreServed}
use Rattle.machine_theorem.proofs.Lemmas.{after_all_same, at_start_invariant, fair}
use Rattle.programs.specs.declared.ends.End.{End}
use Rattle.programs.specs.Acts.{Acts}
use Rattle.schedules.specs.declared.policy.Policy.{Policy}
use Rattle.schedules.specs.declared.policy.Policy.TheVariants.{Rounds, FairRounds, Seed}
use Rattle.schedules.specs.GivenSteps.{GivesSteps}
use Rattle.schedules.specs.Policies.{EndsBy}
use Rattle.schedules.specs.RoundSchedule.{no_round, rounds}
use Rattle.schedules.specs.Runs.{Ended, initial_position, plan_of}
use Rattle.schedules.specs.Schedules.{Schedule}
use Rattle.schedules.specs.SeedSchedule.{of_seed, seeded}
use Rattle.schedules.proofs.RoundSteps.{rounds_give_steps}
use Rattle.schedules.proofs.RunLaws.{all_both, run_makes}
use Rattle.schedules.proofs.SeedSteps.{seeds_give_steps}
use Rattle.schedules.proofs.Served.{Issues, all_served}

module _ {P : Type 0} (acts : Acts P) (config : Config) (memory : FinMap nat_cmp ℕ) (good : is_good config ≡ true)
    (legal : (events : List Event) → IsConsistent (after_all (at_start config memory) events)) (earlier : List Event)
  where
    abbrev start : Machine
    start = after_all (at_start config memory) earlier

    as_many : length start.cores ≡ start.config.cores
    as_many =
        let same = after_all_same (at_start config memory) earlier in
        same.cores ∙ (at_start_invariant config memory (fair config good)).core_count
        ∙ sym (ap (λ (c : Config). c.cores) same.config)

    module _ (keeps : Bool) (limit : ℕ) (m : Machine) (opening programs : List P) (events : List Event)
        (end : End) where
      served_by : {S : Type 0} (schedule : Schedule P S) → GivesSteps acts schedule → (own : S) →
          Ended keeps (plan_of acts schedule limit) (initial_position acts start opening own) events m programs end →
          AreServed acts start m opening programs
      served_by schedule gives own ended =
          let plan = plan_of acts schedule limit in
          let made : after_all (at_start config memory) (earlier ++ events) ≡ m =
          all_both (at_start config memory) earlier events
          ∙ sym (run_makes plan (initial_position acts start opening own) refl ended) in
          all_served plan gives start opening own as_many (legal earlier).issued events m programs end
          (subst Issues made (legal (earlier ++ events)).issued) ended

      by_policy : (policy : Policy) → EndsBy keeps acts policy limit start opening events m programs end →
          AreServed acts start m opening programs
      by_policy Rounds =
          served_by (rounds acts) (rounds_give_steps acts (Unit {0})) (no_round false start.config.cores)
      by_policy FairRounds =
          served_by (rounds acts) (rounds_give_steps acts (Unit {0})) (no_round true start.config.cores)
      by_policy (Seed seed) = served_by (seeded acts) (seeds_give_steps acts) (of_seed seed)

    pub runs_served : (keeps : Bool) (policy : Policy) (limit : ℕ) (m : Machine) (opening programs : List P)
        (events : List Event) (end : End) → EndsBy keeps acts policy limit start opening events m programs end →
        AreServed acts start m opening programs
    runs_served keeps policy limit m opening programs events end =
        by_policy keeps limit m opening programs events end policy
