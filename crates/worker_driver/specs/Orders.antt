-- How a run goes: by a policy, or by threads.
use Rattle.std.specs.Prelude.{◌≡◌, ℕ, List}
use Rattle.std.specs.Ordering.{nat_cmp}
use Rattle.std.specs.FinMap.{FinMap}
use Rattle.machine_table.specs.declared.config.Config.{Config}
use Rattle.machine_table.specs.declared.event.Event.{Event}
use Rattle.machine_table.specs.Machine.{Machine}
use Rattle.machine_table.specs.Opening.{at_start}
use Rattle.programs.specs.declared.ends.End.{End}
use Rattle.programs.specs.Acts.{Acts}
use Rattle.schedules.specs.Policies.{EndedBy}
use Rattle.thread_driver.specs.ThreadRuns.{IsThreadRun}
use Rattle.worker_driver.specs.declared.set_up.Driver.{Driver}
use Rattle.worker_driver.specs.declared.set_up.Driver.TheVariants.{ByPolicy, ByThreads}

-- A run leads from a machine with this set-up and opening memory, and these programs, to a machine, other programs and
-- an end. By a policy it does so by the events of its schedule, with at most `limit` turns. By threads each seat
-- of the machine is given at most `limit` turns, those of banks fair or not, and these decide how the run ends.
abbrev pub LeadsTo : {P : Type 0} → Acts P → Driver → ℕ → Config → FinMap nat_cmp ℕ → List P → Machine → List P →
    End → Type 0
LeadsTo acts (ByPolicy policy) limit config opening before m after e =
    (events : List Event) × EndedBy acts policy limit (at_start config opening) before events m after e
LeadsTo acts (ByThreads fair) limit config opening before m after e =
    (m.config ≡ config) × (m.opening ≡ opening) × IsThreadRun acts fair limit before m after e
