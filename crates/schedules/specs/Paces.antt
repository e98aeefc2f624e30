-- Runs that go on in pieces: where one stands between two of them, and how many turns a piece makes.
use Rattle.std.specs.Prelude.{ℕ, Bool, false, true, List}
use Rattle.std.specs.Fn.{iterate}
use Rattle.rand_pcg.specs.Lcg.{Lcg}
use Rattle.machine_table.specs.declared.event.Event.{Event}
use Rattle.machine_table.specs.Machine.{Machine}
use Rattle.programs.specs.declared.ends.End.{End}
use Rattle.programs.specs.Acts.{Acts}
use Rattle.schedules.specs.declared.policy.Policy.{Policy}
use Rattle.schedules.specs.declared.policy.Policy.TheVariants.{Rounds, FairRounds, Seed}
use Rattle.schedules.specs.RoundSchedule.{Round, no_round, rounds}
use Rattle.schedules.specs.Runs.{Ended, EndedIn, initial_position, plan_of}
use Rattle.schedules.specs.Schedules.{Schedule}
use Rattle.schedules.specs.SeedSchedule.{of_seed, seeded, two_drawn}

-- a policy, and the generator of whose words a seeded run draws next; rounds, which are all alike, draw none
pub record Paced : Type 0 where
  pub policy : Policy
  pub generator : Lcg

abbrev pub seed_of : Policy → ℕ
seed_of (Seed seed) = seed
seed_of _ = 0

-- a generator after so many turns by a policy
abbrev pub drawn_by : Policy → ℕ → Lcg → Lcg
drawn_by (Seed seed) turns generator = iterate two_drawn turns generator
drawn_by _ turns generator = generator

-- after so many turns more
abbrev pub gone : ℕ → Paced → Paced
gone turns pace = record { policy = pace.policy; generator = drawn_by pace.policy turns pace.generator }

-- after so many turns from the first one on
abbrev pub paced : Policy → ℕ → Paced
paced policy made = gone made (record { policy = policy; generator = of_seed (seed_of policy) })

-- what is so of the schedule that a run on so many cores goes on by, and of its state
abbrev pub IsSoOf : {P : Type 0} → Acts P → Policy → Lcg → ℕ → ((S : Type 0) → Schedule P S → S → Type 0) → Type 0
IsSoOf acts Rounds generator cores Is = Is Round (rounds acts) (no_round false cores)
IsSoOf acts FairRounds generator cores Is = Is Round (rounds acts) (no_round true cores)
IsSoOf acts (Seed seed) generator cores Is = Is Lcg (seeded acts) generator

module _ {P : Type 0} (keeps : Bool) (acts : Acts P) (pace : Paced) where
  -- as EndsBy, of a run that goes on from there
  abbrev pub GoesOnFrom : ℕ → Machine → List P → List Event → Machine → List P → End → Type 0
  GoesOnFrom limit m programs events after left end =
      IsSoOf acts pace.policy pace.generator m.config.cores (λ S schedule own.
      Ended keeps (plan_of acts schedule limit) (initial_position acts m programs own) events after left end)

  -- as EndedIn, of a run that goes on from there
  abbrev pub GoesOnIn : ℕ → ℕ → Machine → List P → List Event → Machine → List P → End → Type 0
  GoesOnIn turns limit m programs events after left end =
      IsSoOf acts pace.policy pace.generator m.config.cores (λ S schedule own.
      EndedIn turns keeps (plan_of acts schedule limit) (initial_position acts m programs own) events after left end)
