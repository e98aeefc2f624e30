-- The runs of a litmus test that options ask for.
use Rattle.std.specs.Prelude.{◌≡◌, ℕ, true, List, length}
use Rattle.std.specs.List.{AllByRecursion}
use Rattle.litmus_reader.specs.Litmus.{Litmus}
use Rattle.machine_table.specs.declared.config.Config.{Config}
use Rattle.machine_table.specs.SetUp.{is_good}
use Rattle.report_text.specs.declared.run_end.RunEnd.{RunEnd}
use Rattle.run_options.specs.declared.options.LitmusOptions.{LitmusOptions}
use Rattle.worker_driver.specs.Outcomes.{HasOutcome}
use Rattle.worker_driver.specs.Runs.{AreFrom}
use Rattle.worker_driver.specs.SetUp.{config_of, driver_of, limit_of}

-- the most turns of a run
abbrev pub turns : LitmusOptions → ℕ
turns options = limit_of options.run

-- the machine of a test has a core for each thread
abbrev pub machine_for : LitmusOptions → Litmus → Config
machine_for options test = config_of options.run.machine test.threads

-- They are runs on a good machine, as many as the options ask for, by the options' schedule from the first run on. The
-- end states are outcomes of the sequential machine.
pub record AreAsked (options : LitmusOptions) (test : Litmus) (runs : List RunEnd) : Type 0 where
  pub good : is_good (machine_for options test) ≡ true
  pub count : length runs ≡ options.runs
  pub each : AreFrom test (machine_for options test) (driver_of options.run) (turns options) 0 runs
  pub outcomes : AllByRecursion (HasOutcome test) runs
