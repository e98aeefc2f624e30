-- What a run of a litmus test is.
use Rattle.std.specs.Prelude.{◌≡◌, ℕ, zero, suc, ◌+◌, List, [], ◌∷◌, length, map, replicate, Option, Some, None}
use Rattle.std.specs.FinMap.{empty}
use Rattle.physiological_order.specs.StaleHits.{stale_count}
use Rattle.litmus_reader.specs.Litmus.{Litmus}
use Rattle.litmus_reader.specs.OpeningMemory.{words_opened}
use Rattle.litmus_reader.specs.ThreadSteps.{Thread, with_items, settled_thread}
use Rattle.litmus_reader.specs.Truth.{end_value}
use Rattle.machine_table.specs.declared.config.Config.{Config}
use Rattle.machine_table.specs.Machine.{Machine}
use Rattle.machine_theorem.specs.Coherence.{coherent}
use Rattle.worker_driver.specs.Orders.{LeadsTo}
use Rattle.programs.specs.declared.ends.End.{End}
use Rattle.programs.specs.declared.ends.End.TheVariants.{AllDone}
use Rattle.report_text.specs.declared.run_end.RunEnd.{RunEnd}
use Rattle.sequential_machine.specs.Performed.{thread_acts}
use Rattle.schedules.specs.Batches.{policy_of_run}
use Rattle.worker_driver.specs.declared.set_up.Driver.{Driver}
use Rattle.worker_driver.specs.declared.set_up.Driver.TheVariants.{ByPolicy, ByThreads}

-- a thread as the test opens it, and n of them from this number on
abbrev pub started : Litmus → ℕ → Thread
started test t = settled_thread t (with_items t test.items (replicate 32 0)) test.cells

abbrev pub threads_from : Litmus → ℕ → ℕ → List Thread
threads_from test t zero = []
threads_from test t (suc n) = started test t ∷ threads_from test (t + 1) n

-- the values of n words from this one on, where they are
abbrev pub values_from : Machine → ℕ → ℕ → List ℕ
values_from m word zero = []
values_from m word (suc n) = coherent m word ∷ values_from m (word + 1) n

-- what the condition's names have at the end, if all threads are done
abbrev pub state_at : Litmus → End → List Thread → Machine → Option (List ℕ)
state_at test AllDone threads m = Some (map (end_value threads (values_from m 0 (length test.locations))) test.seen)
state_at test end threads m = None

-- what a run reports that ended with this machine and these threads
pub record Tells (test : Litmus) (m : Machine) (threads : List Thread) (run : RunEnd) : Type 0 where
  pub state : run.state ≡ state_at test run.end threads m
  pub completed : run.completed ≡ length m.records
  pub stale : run.stale ≡ stale_count m.records
  pub counts : run.counts ≡ m.mail.counts

-- a policy's schedule, or threads, lead from the machine and the threads that the test opens to those that the run
-- reports, and to its end
pub record IsRun (test : Litmus) (config : Config) (driver : Driver) (limit : ℕ) (run : RunEnd) : Type 0 where
  pub machine : Machine
  pub threads : List Thread
  pub led : LeadsTo thread_acts driver limit config (words_opened test.items empty) (threads_from test 0 test.threads)
      machine threads run.end
  pub told : Tells test machine threads run

-- what drives run i of a batch, if this drives the first
abbrev pub driver_of_run : Driver → ℕ → Driver
driver_of_run (ByPolicy first) i = ByPolicy (policy_of_run first i)
driver_of_run (ByThreads fair) i = ByThreads fair

-- runs of a batch from its run i on, if this drives its first run
abbrev pub AreFrom : Litmus → Config → Driver → ℕ → ℕ → List RunEnd → Type 0
AreFrom test config first limit i [] = Unit {0}
AreFrom test config first limit i (run ∷ runs) =
    IsRun test config (driver_of_run first i) limit run
    × AreFrom test config first limit (i + 1) runs
