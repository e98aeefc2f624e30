-- Threads that were performed to their end, by the records of their operations.
use Rattle.std.specs.Prelude.{◌≡◌, ℕ, ◌<◌, List, Some, None, slice_get}
use Rattle.std.specs.List.{AllByRecursion}
use Rattle.physiological_order.specs.declared.operation.Op.{Op}
use Rattle.physiological_order.specs.declared.operation.Record.{Record}
use Rattle.physiological_order.specs.Order.{of_core, Follows}
use Rattle.litmus_reader.specs.Litmus.{Litmus}
use Rattle.litmus_reader.specs.ThreadSteps.{Thread, settled_thread, next_operation, done_with}
use Rattle.sequential_machine.specs.SequentialMachine.{registers_opened}
use Rattle.programs.specs.Acts.{Acts, as_step}
use Rattle.programs.specs.Performs.{Performs}

-- what a thread does, as a program of steps
abbrev pub thread_acts : Acts Thread
thread_acts = record { next = λ thread. as_step (next_operation thread); done = done_with }

-- the records are those of the test's threads, each performed to its end, and these are the threads then
pub record ArePerformed (test : Litmus) (issued : ℕ → List Op) (records : List Record) (threads : List Thread) : Type
    0 where
  pub there : AllByRecursion (λ r. r.core < test.threads) records
  -- a thread's records, in the order in which they were completed, are in its program order
  pub in_order : (t : ℕ) → t < test.threads → Follows 0 (issued t) (of_core t records)
  pub performed : (t : ℕ) → t < test.threads → (last : Thread) × (slice_get threads t ≡ Some last)
      × Performs thread_acts (of_core t records) (settled_thread t (registers_opened test t) test.cells) last
      × (next_operation last ≡ None)
