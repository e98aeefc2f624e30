-- Runs by the numbers of their jobs are the runs of a batch, one after the other.
use Rattle.std.proofs.Common.{◌≡◌, ℕ, suc, ◌+◌, ◌<◌, List, [], ◌∷◌, length, subst, arith}
use Rattle.std.specs.List.{AllByRecursion, slice_index_or}
use Rattle.litmus_reader.specs.Litmus.{Litmus}
use Rattle.machine_table.specs.declared.config.Config.{Config}
use Rattle.report_text.specs.declared.run_end.RunEnd.{RunEnd}
use Rattle.schedules.specs.declared.policy.Policy.{Policy}
use Rattle.worker_driver.specs.declared.set_up.Driver.TheVariants.{ByPolicy}
use Rattle.worker_driver.specs.Batches.{IsJobOf}
use Rattle.worker_driver.specs.Outcomes.{HasOutcome}
use Rattle.worker_driver.specs.Runs.{AreFrom}

module _ (test : Litmus) (config : Config) (first : Policy) (limit : ℕ) where
  -- the run at each place is that of the job which has this number, counted from i on
  abbrev pub AreJobsFrom : ℕ → List RunEnd → Type 0
  AreJobsFrom i runs = (k : ℕ) (x : RunEnd) → k < length runs →
      IsJobOf test config first limit (i + k) (slice_index_or runs k x)

  first_job : (i : ℕ) (run : RunEnd) (runs : List RunEnd) → AreJobsFrom i (run ∷ runs) →
      IsJobOf test config first limit i run
  first_job i run runs given =
      let same : i + 0 ≡ i = omega arith in
      subst (λ (n : ℕ). IsJobOf test config first limit n run) same (given 0 run (omega arith))

  later_jobs : (i : ℕ) (run : RunEnd) (runs : List RunEnd) → AreJobsFrom i (run ∷ runs) → AreJobsFrom (i + 1) runs
  later_jobs i run runs given k x below =
      let same : i + suc k ≡ i + 1 + k = omega arith in
      subst (λ (n : ℕ). IsJobOf test config first limit n (slice_index_or runs k x)) same
      (given (suc k) x (omega (arith, below)))

  pub are_from : (i : ℕ) (runs : List RunEnd) → AreJobsFrom i runs → AreFrom test config (ByPolicy first) limit i runs
  are_from i [] given = tt
  are_from i (run ∷ runs) given =
      ((first_job i run runs given).0, are_from (i + 1) runs (later_jobs i run runs given))

  pub have_outcomes : (i : ℕ) (runs : List RunEnd) → AreJobsFrom i runs → AllByRecursion (HasOutcome test) runs
  have_outcomes i [] given = tt
  have_outcomes i (run ∷ runs) given =
      ((first_job i run runs given).1, have_outcomes (i + 1) runs (later_jobs i run runs given))

  pub are_jobs : (runs : List RunEnd) → ((k : ℕ) (x : RunEnd) → k < length runs →
      IsJobOf test config first limit k (slice_index_or runs k x)) → AreJobsFrom 0 runs
  are_jobs runs given k x below =
      let same : k ≡ 0 + k = omega arith in
      subst (λ (n : ℕ). IsJobOf test config first limit n (slice_index_or runs k x)) same (given k x below)
