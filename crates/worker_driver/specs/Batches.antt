-- Runs of a litmus test as jobs by number.
use Rattle.std.specs.Prelude.{◌≢◌, ℕ, List}
use Rattle.std.specs.List.{AllByRecursion}
use Rattle.litmus_reader.specs.Litmus.{Litmus}
use Rattle.machine_table.specs.declared.config.Config.{Config}
use Rattle.programs.specs.declared.ends.End.TheVariants.{NoMemory}
use Rattle.report_text.specs.declared.run_end.RunEnd.{RunEnd}
use Rattle.schedules.specs.Batches.{policy_of_run}
use Rattle.schedules.specs.declared.policy.Policy.{Policy}
use Rattle.worker_driver.specs.declared.set_up.Driver.TheVariants.{ByPolicy}
use Rattle.worker_driver.specs.Outcomes.{HasOutcome}
use Rattle.worker_driver.specs.Runs.{IsRun}

-- what the job of a number gives: the run of this number, if the first run follows this policy; its end state is an
-- outcome of the sequential machine
abbrev pub IsJobOf : Litmus → Config → Policy → ℕ → ℕ → RunEnd → Type 0
IsJobOf test config first limit number run =
    IsRun test config (ByPolicy (policy_of_run first number)) limit run × HasOutcome test run

-- no run ended with a failed allocation
abbrev pub AreMade : List RunEnd → Type 0
AreMade runs = AllByRecursion (λ run. run.end ≢ NoMemory) runs
