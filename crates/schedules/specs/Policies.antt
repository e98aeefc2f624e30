-- Runs by rounds or by a seed.
use Rattle.std.specs.Prelude.{ℕ, Bool, false, true, List}
use Rattle.machine_table.specs.declared.event.Event.{Event}
use Rattle.machine_table.specs.Machine.{Machine}
use Rattle.programs.specs.declared.ends.End.{End}
use Rattle.schedules.specs.declared.policy.Policy.{Policy}
use Rattle.schedules.specs.declared.policy.Policy.TheVariants.{Rounds, FairRounds, Seed}
use Rattle.programs.specs.Acts.{Acts}
use Rattle.schedules.specs.RoundSchedule.{no_round, rounds}
use Rattle.schedules.specs.SeedSchedule.{of_seed, seeded}
use Rattle.schedules.specs.Runs.{plan_of, initial_position, Ended}

-- the events, by the policy's schedule and at most `limit` turns, lead from a machine and programs to others and an
-- end; `keeps` says whether keeping or watching them may ask for memory
abbrev pub EndsBy : {P : Type 0} → Bool → Acts P → Policy → ℕ → Machine → List P → List Event → Machine → List P →
    End → Type 0
EndsBy keeps acts Rounds limit m programs events after programs_after end =
    Ended keeps (plan_of acts (rounds acts) limit) (initial_position acts m programs (no_round false m.config.cores))
    events after programs_after end
EndsBy keeps acts FairRounds limit m programs events after programs_after end =
    Ended keeps (plan_of acts (rounds acts) limit) (initial_position acts m programs (no_round true m.config.cores))
    events after programs_after end
EndsBy keeps acts (Seed seed) limit m programs events after programs_after end =
    Ended keeps (plan_of acts (seeded acts) limit) (initial_position acts m programs (of_seed seed)) events after
    programs_after end

-- the same, where they aren't kept in a list
abbrev pub EndedBy : {P : Type 0} → Acts P → Policy → ℕ → Machine → List P → List Event → Machine → List P → End →
    Type 0
EndedBy = EndsBy false
