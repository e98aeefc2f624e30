-- Two batches of the same runs agree at each place where neither run ended for want of memory.
use Rattle.std.proofs.Common.{◌≡◌, ◌≢◌, ℕ, zero, suc, ◌+◌, List, [], ◌∷◌, length, Some, slice_get, refl, sym}
use Rattle.std.proofs.Common.{ap, ap₂, ◌∙◌, subst, arith}
use Rattle.physiological_order.specs.StaleHits.{stale_count}
use Rattle.litmus_reader.specs.Litmus.{Litmus}
use Rattle.litmus_reader.specs.ThreadSteps.{Thread}
use Rattle.machine_table.specs.declared.config.Config.{Config}
use Rattle.machine_table.specs.declared.event.Event.{Event}
use Rattle.machine_table.specs.Machine.{Machine}
use Rattle.programs.specs.declared.ends.End.{End}
use Rattle.programs.specs.declared.ends.End.TheVariants.{NoMemory}
use Rattle.report_text.specs.declared.run_end.RunEnd.{RunEnd}
use Rattle.schedules.specs.Batches.{policy_of_run}
use Rattle.schedules.specs.Policies.{EndedBy}
use Rattle.schedules.specs.declared.policy.Policy.{Policy}
use Rattle.worker_driver.specs.declared.set_up.Driver.TheVariants.{ByPolicy}
use Rattle.worker_driver.specs.Batches.{AreMade}
use Rattle.worker_driver.specs.Runs.{AreFrom, IsRun, state_at}
use Rattle.sequential_machine.specs.Performed.{thread_acts}

-- two runs of the same threads by one policy, from one machine, are one run
abbrev pub OneRun : Type 0
OneRun = (policy : Policy) (limit : ℕ) (start : Machine) (opening : List Thread) (events more : List Event)
    (m n : Machine) (programs others : List Thread) (end last : End) →
    EndedBy thread_acts policy limit start opening events m programs end →
    EndedBy thread_acts policy limit start opening more n others last → end ≢ NoMemory → last ≢ NoMemory →
    (events ≡ more) × (m ≡ n) × (programs ≡ others) × (end ≡ last)

module _ (one : OneRun) (test : Litmus) (config : Config) where
  pub same_run : (policy : Policy) (limit : ℕ) (run other : RunEnd) → IsRun test config (ByPolicy policy) limit run →
      IsRun test config (ByPolicy policy) limit other → run.end ≢ NoMemory → other.end ≢ NoMemory → run ≡ other
  same_run policy limit run other a b had too =
      let same = one policy limit _ _ a.led.0 b.led.0 a.machine b.machine a.threads b.threads run.end other.end
      a.led.1 b.led.1 had too in
      let state : run.state ≡ other.state =
      a.told.state ∙ ap (λ (e : End). state_at test e a.threads a.machine) same.3
      ∙ ap (λ (ts : List Thread). state_at test other.end ts a.machine) same.2
      ∙ ap (λ (m : Machine). state_at test other.end b.threads m) same.1 ∙ sym b.told.state in
      let completed : run.completed ≡ other.completed =
      a.told.completed ∙ ap (λ (m : Machine). length m.records) same.1 ∙ sym b.told.completed in
      let stale : run.stale ≡ other.stale =
      a.told.stale ∙ ap (λ (m : Machine). stale_count m.records) same.1 ∙ sym b.told.stale in
      let counts : run.counts ≡ other.counts =
      a.told.counts ∙ ap (λ (m : Machine). m.mail.counts) same.1 ∙ sym b.told.counts in
      ap (λ (e : End). record run { end = e }) same.3 ∙ ap (λ s. record run { end = other.end; state = s }) state
      ∙ ap (λ n. record other { completed = n; stale = run.stale; counts = run.counts }) completed
      ∙ ap (λ n. record other { stale = n; counts = run.counts }) stale
      ∙ ap (λ k. record other { counts = k }) counts

  pub same_at : (first : Policy) (limit i : ℕ) (runs others : List RunEnd) (place : ℕ) (run other : RunEnd) →
      AreFrom test config (ByPolicy first) limit i runs → AreFrom test config (ByPolicy first) limit i others →
      slice_get runs place ≡ Some run → slice_get others place ≡ Some other → run.end ≢ NoMemory →
      other.end ≢ NoMemory → run ≡ other
  same_at first limit i [] others place run other a b here there had too = absurd cc
  same_at first limit i (r ∷ rs) [] place run other a b here there had too = absurd cc
  same_at first limit i (r ∷ rs) (s ∷ ss) zero run other a b here there had too =
      let p : r ≡ run = cc in
      let q : s ≡ other = cc in
      same_run (policy_of_run first i) limit run other
      (subst (λ (x : RunEnd). IsRun test config (ByPolicy (policy_of_run first i)) limit x) p a.0)
      (subst (λ (x : RunEnd). IsRun test config (ByPolicy (policy_of_run first i)) limit x) q b.0) had too
  same_at first limit i (r ∷ rs) (s ∷ ss) (suc place) run other a b here there had too =
      same_at first limit (i + 1) rs ss place run other a.1 b.1 here there had too

  pub same_lists : (first : Policy) (limit i : ℕ) (runs others : List RunEnd) →
      AreFrom test config (ByPolicy first) limit i runs → AreFrom test config (ByPolicy first) limit i others →
      length runs ≡ length others → AreMade runs → AreMade others → runs ≡ others
  same_lists first limit i [] [] a b long had too = refl
  same_lists first limit i [] (s ∷ ss) a b long had too = absurd (omega (arith, long))
  same_lists first limit i (r ∷ rs) [] a b long had too = absurd (omega (arith, long))
  same_lists first limit i (r ∷ rs) (s ∷ ss) a b long had too =
      ap₂ (λ x xs. x ∷ xs) (same_run (policy_of_run first i) limit r s a.0 b.0 had.0 too.0)
      (same_lists first limit (i + 1) rs ss a.1 b.1 (omega (arith, long)) had.1 too.1)
