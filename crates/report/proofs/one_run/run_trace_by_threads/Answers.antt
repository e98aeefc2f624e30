use Rattle.std.proofs.Common.{◌≡◌, List, ap, refl, sym, subst, length, ◌∙◌, arith}
use Rattle.std.specs.FinMap.{empty}
use Rattle.physiological_order.specs.StaleHits.{RisesByNumber}
use Rattle.machine_table.specs.Machine.{Machine}
use Rattle.machine_table.specs.Opening.{at_start}
use Rattle.thread_driver.specs.ThreadRuns.{IsThreadRun, machine_of}
use Rattle.programs.specs.declared.steps.Step.{Step}
use Rattle.machine_theorem.specs.Service.{AreServed}
use Rattle.trace_reader.specs.Steps.{trace_cores}
use Rattle.worker_driver.specs.declared.set_up.Driver.TheVariants.{ByThreads}
use Rattle.report.specs.Runs.{programs_below, step_acts}
use Rattle.report.proofs.CoreCounts.{programs_count}
use Rattle.report.proofs.InTrace.{is_run}
use Rattle.report.proofs.one_run.run_trace_by_threads.Goals as goal

pub run_seats-requires-clause-programs : goal.run_seats-requires-clause-programs
run_seats-requires-clause-programs g c κs bounds =
    ap length c.in_ok-programs.ensures ∙ programs_count c.args.trace.now (trace_cores c.args.trace.now)
    ∙ sym c.requires.cores

pub returns : goal.returns
returns g c =
    let lanes = c.args.trace.now in
    let config = c.args.config in
    let given = c.in_ok-programs.ensures ∙ ap (programs_below lanes) (sym c.requires.cores) in
    let ran = c.in_ok-ran.ran in
    let is = c.in_ok-ran.ensures.run in
    let m : Machine = machine_of ran.run is.parts in
    let config_is : m.config ≡ config = c.in_ok-ran.ensures.set_up.0 in
    let opened : m.opening ≡ empty = c.in_ok-ran.ensures.set_up.1 ∙ c.new-memory.ensures in
    let run = subst (λ (ts : List (List Step)).
    IsThreadRun step_acts c.args.fair c.args.limit ts m ran.programs.items ran.end)
    given (record { run = ran.run; is_run = is; shows = refl }) in
    let served = subst (λ ws. AreServed step_acts (at_start config ws) m (programs_below lanes config.cores)
    ran.programs.items) opened
    (subst (λ k. AreServed step_acts (at_start k m.opening) m (programs_below lanes config.cores)
    ran.programs.items) config_is
    (subst (λ (ts : List (List Step)). AreServed step_acts (at_start m.config m.opening) m ts ran.programs.items)
    given is.served)) in (
      is.parts,
      λ asks. is_run lanes config m ran.programs.items served
          (c.closed_machines_are_consistent.ensures ran.run is.parts) opened
          (subst RisesByNumber c.records-rising.ensures.records (c.records-rising.ensures.rising is.parts))
          (let few = c.cores-few.ensures.few in let same = c.cores-few.ensures.cores in let cores = c.requires.cores in
          omega (arith, few, same, cores)) asks (ByThreads c.args.fair) c.args.limit ran.end (config_is, opened, run),
    )
