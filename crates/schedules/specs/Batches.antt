-- Which schedule each run of a batch follows.
use Rattle.std.specs.Prelude.{ℕ, ◌+◌, ◌%◌, ◌^◌}
use Rattle.schedules.specs.declared.policy.Policy.{Policy}
use Rattle.schedules.specs.declared.policy.Policy.TheVariants.{Rounds, FairRounds, Seed}

-- run i follows rounds, fair or not, as the first one does, or the seed that is the first one plus i
abbrev pub policy_of_run : Policy → ℕ → Policy
policy_of_run Rounds i = Rounds
policy_of_run FairRounds i = FairRounds
policy_of_run (Seed seed) i = Seed ((seed + i) % 2 ^ 64)
