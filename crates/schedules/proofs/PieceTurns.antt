-- The turns that a piece of a run began, and where the next one goes on.
use Rattle.std.proofs.Common.{◌≡◌, ℕ, ◌+◌, ◌≤◌, Bool, true, false, List, refl}
use Rattle.rand_pcg.specs.Lcg.{Lcg}
use Rattle.machine_table.specs.declared.event.Event.{Event}
use Rattle.machine_table.specs.Machine.{Machine}
use Rattle.programs.specs.declared.ends.End.{End}
use Rattle.programs.specs.declared.ends.End.TheVariants.{TurnsUsed}
use Rattle.programs.specs.Acts.{Acts}
use Rattle.schedules.specs.declared.policy.Policy.{Policy}
use Rattle.schedules.specs.declared.policy.Policy.TheVariants.{Rounds, FairRounds, Seed}
use Rattle.schedules.specs.Paces.{GoesOnFrom, GoesOnIn, Paced, gone, paced}
use Rattle.schedules.specs.Policies.{EndsBy}
use Rattle.schedules.specs.RoundSchedule.{no_round, rounds}
use Rattle.schedules.specs.Runs.{Ended, EndedIn, initial_position, plan_of}
use Rattle.schedules.specs.Schedules.{Schedule}
use Rattle.schedules.specs.SeedSchedule.{of_seed, seeded, two_drawn}
use Rattle.schedules.proofs.Iterations.{iterate_both}
use Rattle.schedules.proofs.MoreTurns.{all_turns}
use Rattle.schedules.proofs.RunsGoingOn.{goes_on_at_first}

pub gone_both : (policy : Policy) (made turns : ℕ) → gone turns (paced policy made) ≡ paced policy (made + turns)
gone_both (Seed seed) made turns =
    λ i. record { policy = Seed seed; generator = iterate_both two_drawn made turns (of_seed seed) i }
gone_both _ made turns = refl

module _ {P : Type 0} (acts : Acts P) where
  module _ (keeps : Bool) (turns limit : ℕ) (m after : Machine) (programs left : List P) (events : List Event)
      (end : End) where
    by_schedule : {S : Type 0} (schedule : Schedule P S) (own : S) →
        let start = initial_position acts m programs own in
        EndedIn turns keeps (plan_of acts schedule limit) start events after left end → (turns ≤ limit)
        × (end ≡ TurnsUsed → turns ≡ limit) × Ended keeps (plan_of acts schedule turns) start events after left end
        × Ended keeps (plan_of acts schedule limit) start events after left end
    by_schedule schedule own is =
        let start = initial_position acts m programs own in
        (is.within, is.used, is.ended, all_turns (plan_of acts schedule limit) start turns end is)

    by_policy : (policy : Policy) (generator : Lcg) →
        let pace : Paced = record { policy = policy; generator = generator } in
        GoesOnIn keeps acts pace turns limit m programs events after left end → (turns ≤ limit)
        × (end ≡ TurnsUsed → turns ≡ limit) × GoesOnFrom keeps acts pace turns m programs events after left end
        × GoesOnFrom keeps acts pace limit m programs events after left end
    by_policy Rounds generator = by_schedule (rounds acts) (no_round false m.config.cores)
    by_policy FairRounds generator = by_schedule (rounds acts) (no_round true m.config.cores)
    by_policy (Seed seed) generator = by_schedule (seeded acts) generator

  pub in_turns : (keeps : Bool) (pace : Paced) (turns limit : ℕ) (m after : Machine) (programs left : List P)
      (events : List Event) (end : End) → GoesOnIn keeps acts pace turns limit m programs events after left end →
      (turns ≤ limit) × (end ≡ TurnsUsed → turns ≡ limit)
      × GoesOnFrom keeps acts pace turns m programs events after left end
      × GoesOnFrom keeps acts pace limit m programs events after left end
  in_turns keeps pace turns limit m after programs left events end =
      by_policy keeps turns limit m after programs left events end pace.policy pace.generator

  -- a first piece is a run by the policy
  pub first_ends : (keeps : Bool) (policy : Policy) (turns limit : ℕ) (m after : Machine) (programs left : List P)
      (events : List Event) (end : End) →
      GoesOnIn keeps acts (paced policy 0) turns limit m programs events after left end →
      EndsBy keeps acts policy limit m programs events after left end
  first_ends keeps policy turns limit m after programs left events end is =
      (goes_on_at_first acts keeps policy limit m after programs left events end).0
      (in_turns keeps (paced policy 0) turns limit m after programs left events end is).3
