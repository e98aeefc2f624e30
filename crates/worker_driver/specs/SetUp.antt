-- The machine that options ask for, what drives a run of it, and how far it goes.
use Rattle.std.specs.Prelude.{◌≢◌, ℕ, max, min, nat_le, Bool, false, true, ◌&&◌}
use Rattle.run_options.specs.declared.options.MachineOptions.{MachineOptions}
use Rattle.run_options.specs.declared.options.RunOptions.{RunOptions}
use Rattle.run_options.specs.declared.options.Schedule.{Schedule}
use Rattle.run_options.specs.declared.options.Schedule.TheVariants.{Round, FairRound}
use Rattle.run_options.specs.declared.options.Schedule.TheVariants.{Seed as ScheduledBySeed, Threads, FairThreads}
use Rattle.schedules.specs.declared.policy.Policy.TheVariants.{Rounds, FairRounds, Seed}
use Rattle.machine_table.specs.declared.config.Config.{Config}
use Rattle.worker_driver.specs.declared.set_up.Driver.{Driver}
use Rattle.worker_driver.specs.declared.set_up.Driver.TheVariants.{ByPolicy, ByThreads}

-- this many cores
abbrev pub config_of : MachineOptions → ℕ → Config
config_of options cores = record {
  cores = cores;
  banks = options.banks;
  sets = options.sets;
  ways = options.ways;
  bank_sets = options.bank_sets;
  bank_ways = options.bank_ways;
  line_words = options.line_words;
  lease = options.lease;
  messages = options.messages;
  opening_time = options.time;
  private_write = options.private_write;
}

-- no number of the machine's parts is past what any machine has
abbrev pub has_small_parts : MachineOptions → Bool
has_small_parts options =
    nat_le options.banks 65536 && nat_le options.sets 65536 && nat_le options.ways 65536
    && nat_le options.bank_sets 65536
    && nat_le options.bank_ways 65536 && nat_le options.line_words 65536 && nat_le options.messages 65536

-- the most turns of a run
abbrev pub limit_of : RunOptions → ℕ
limit_of options = min options.limit 4294967295

-- what drives the first run
abbrev pub driver_by : Schedule → ℕ → Driver
driver_by Round seed = ByPolicy Rounds
driver_by FairRound seed = ByPolicy FairRounds
driver_by ScheduledBySeed seed = ByPolicy (Seed seed)
driver_by Threads seed = ByThreads false
driver_by FairThreads seed = ByThreads true

abbrev pub driver_of : RunOptions → Driver
driver_of options = driver_by options.schedule options.seed

-- no threads drive the first run
abbrev pub FollowsPolicy : RunOptions → Type 0
FollowsPolicy options = (fair : Bool) → driver_of options ≢ ByThreads fair

-- how many threads make the runs: one by rounds, fair or not, and otherwise as many as the options say, from 1 to 16
abbrev pub workers_by : Schedule → ℕ → ℕ
workers_by Round workers = 1
workers_by FairRound workers = 1
workers_by ScheduledBySeed workers = max (min workers 16) 1
workers_by Threads workers = max (min workers 16) 1
workers_by FairThreads workers = max (min workers 16) 1
