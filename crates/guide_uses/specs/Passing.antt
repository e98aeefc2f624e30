-- What the threads do that pass a message, and when the second one has received it.
use Rattle.std.specs.Prelude.{◌==◌, ℕ, Bool, false, List, if◌then◌else◌, Option, Some, None}
use Rattle.std.specs.FinMap.{empty}
use Rattle.physiological_order.specs.declared.operation.Op.{Op}
use Rattle.physiological_order.specs.declared.operation.Op.TheVariants.{Load, Store}
use Rattle.physiological_order.specs.declared.operation.Record.{Record}
use Rattle.physiological_order.specs.Order.{flat, Legal, of_core}
use Rattle.programs.specs.declared.steps.Step.{Step}
use Rattle.programs.specs.declared.steps.Step.TheVariants as step
use Rattle.programs.specs.Acts.{Acts}
use Rattle.programs.specs.Performs.{Performs}
use Rattle.guide_uses.specs.declared.program.Thread.{Thread}
use Rattle.guide_uses.specs.declared.program.Thread.TheVariants as thread

-- the message is 42 in word 0, and the flag is word 1
abbrev pub thread_next : Thread → Option Step
thread_next thread.StoreMessage = Some (step.Op (Store 0 42))
thread_next thread.StoreFlag = Some (step.Op (Store 1 1))
thread_next thread.LoadFlag = Some (step.Op (Load 1))
thread_next thread.Wait = Some step.Advance
thread_next thread.LoadMessage = Some (step.Op (Load 0))
thread_next (thread.Over received) = None

abbrev pub is_up : Option ℕ → Bool
is_up None = false
is_up (Some flag) = flag == 1

-- a thread that received anything but 1 for the flag waits, and loads it again
abbrev pub thread_done : Thread → Option ℕ → Thread
thread_done thread.StoreMessage received = thread.StoreFlag
thread_done thread.StoreFlag received = thread.Over received
thread_done thread.LoadFlag received = if is_up received then thread.LoadMessage else thread.Wait
thread_done thread.Wait received = thread.LoadFlag
thread_done thread.LoadMessage received = thread.Over received
thread_done (thread.Over last) received = thread.Over received

abbrev pub passing_acts : Acts Thread
passing_acts = record { next = thread_next; done = thread_done }

-- there is a legal history of a memory of zeros in which core 0 ran the first thread, as far as it came, and core 1
-- ran the second one to its end, and received this last
pub record IsPassed (message : ℕ) : Type 0 where
  pub issued : ℕ → List Op
  pub records : List Record
  pub legal : Legal (flat empty) issued records
  pub writer : Thread
  pub written : Performs passing_acts (of_core 0 records) thread.StoreMessage writer
  pub received : Performs passing_acts (of_core 1 records) thread.LoadFlag (thread.Over (Some message))
