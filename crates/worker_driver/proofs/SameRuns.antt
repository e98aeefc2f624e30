-- One more run behind others.
use Rattle.std.proofs.Common.{ℕ, suc, ◌+◌, ◌≡◌, List, [], ◌∷◌, ◌++◌, length, subst, arith}
use Rattle.std.specs.List.{AllByRecursion}
use Rattle.litmus_reader.specs.Litmus.{Litmus}
use Rattle.machine_table.specs.declared.config.Config.{Config}
use Rattle.report_text.specs.declared.run_end.RunEnd.{RunEnd}
use Rattle.worker_driver.specs.declared.set_up.Driver.{Driver}
use Rattle.worker_driver.specs.Runs.{AreFrom, IsRun, driver_of_run}

-- how the run of this number goes, if the first goes this way
abbrev IsNumbered : Litmus → Config → Driver → ℕ → RunEnd → ℕ → Type 0
IsNumbered test config way limit run n = IsRun test config (driver_of_run way n) limit run

pub one_more_run : (test : Litmus) (config : Config) (way : Driver) (limit i : ℕ) (runs : List RunEnd)
    (run : RunEnd) → AreFrom test config way limit i runs →
    IsNumbered test config way limit run (i + length runs) → AreFrom test config way limit i (runs ++ run ∷ [])
one_more_run test config way limit i [] run before is =
    let same : i + 0 ≡ i = omega arith in
    (subst (IsNumbered test config way limit run) same is, tt)
one_more_run test config way limit i (r ∷ rs) run before is =
    let same : i + suc (length rs) ≡ i + 1 + length rs = omega arith in (
      before.0,
      one_more_run test config way limit (i + 1) rs run before.1 (subst (IsNumbered test config way limit run) same is),
    )

pub one_more : {A : Type 0} (P : A → Type 0) (xs : List A) (x : A) → AllByRecursion P xs → P x →
    AllByRecursion P (xs ++ x ∷ [])
one_more P [] x before is = (is, tt)
one_more P (y ∷ ys) x before is = (before.0, one_more P ys x before.1 is)
