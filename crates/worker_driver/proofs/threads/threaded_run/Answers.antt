use Rattle.std.proofs.Common.{◌≡◌, List, refl, ap, sym, subst, length, ◌∙◌}
use Rattle.std.proofs.lemmas.Result.{IfOk-weaker}
use Rattle.std.specs.FinMap.{empty}
use Rattle.litmus_reader.specs.OpeningMemory.{words_opened}
use Rattle.litmus_reader.specs.TestViews.{test_of}
use Rattle.litmus_reader.proofs.Lemmas.{well_formed}
use Rattle.litmus_reader.specs.ThreadSteps.{Thread}
use Rattle.machine_table.specs.declared.config.Config.{Config}
use Rattle.machine_table.specs.Machine.{Machine}
use Rattle.machine_table.specs.Opening.{at_start}
use Rattle.thread_driver.specs.ThreadRuns.{IsThreadRun, machine_of}
use Rattle.machine_theorem.specs.Service.{AreServed}
use Rattle.worker_driver.specs.Runs.{Tells, threads_from}
use Rattle.sequential_machine.specs.Performed.{thread_acts}
use Rattle.worker_driver.proofs.Rows.{threads_count}
use Rattle.worker_driver.proofs.Sequential.{has_outcome}
use Rattle.worker_driver.proofs.threads.threaded_run.Goals as goal

pub run_seats-requires-clause-programs : goal.run_seats-requires-clause-programs
run_seats-requires-clause-programs g c κs bounds =
    ap length c.in_ok-threads.ensures ∙ threads_count (test_of c.args.test.now) 0 (test_of c.args.test.now).threads
    ∙ sym c.requires.cores

pub run_end-requires : goal.run_end-requires
run_end-requires g c =
    let is = c.in_ok-ran.ensures.run in
    (machine_of c.in_ok-ran.ran.run is.parts, (is.parts, refl))

pub returns-clause-run : goal.returns-clause-run
returns-clause-run g c =
    let test = test_of c.args.test.now in
    let ran = c.in_ok-ran.ran in
    let is = c.in_ok-ran.ensures.run in
    let m : Machine = machine_of ran.run is.parts in
    let run_is = subst (λ (ts : List Thread).
    IsThreadRun thread_acts c.args.fair c.args.limit ts m ran.programs.items ran.end)
    c.in_ok-threads.ensures (record { run = ran.run; is_run = is; shows = refl }) in
    IfOk-weaker c.run_end.result _ _ (λ run told. record {
      machine = m;
      threads = ran.programs.items;
      led = (
        c.in_ok-ran.ensures.set_up.0,
        c.in_ok-ran.ensures.set_up.1 ∙ c.in_ok-memory.ensures.memory,
        subst (λ e. IsThreadRun thread_acts c.args.fair c.args.limit
            (threads_from test 0 test.threads) m ran.programs.items e)
            (sym told.0) run_is,
      );
      told = subst (λ (ts : List Thread). Tells test m ts run) c.deref.ensures.value (told.1 m (is.parts, refl));
    }) c.run_end.ensures

pub returns-clause-outcome : goal.returns-clause-outcome
returns-clause-outcome g c =
    let test = test_of c.args.test.now in
    let ran = c.in_ok-ran.ran in
    let is = c.in_ok-ran.ensures.run in
    let m : Machine = machine_of ran.run is.parts in
    let config_is : m.config ≡ c.args.config = c.in_ok-ran.ensures.set_up.0 in
    let opened : m.opening ≡ words_opened test.items empty =
    c.in_ok-ran.ensures.set_up.1 ∙ c.in_ok-memory.ensures.memory in
    let served = subst (λ ws. AreServed thread_acts (at_start m.config ws) m (threads_from test 0 test.threads)
    ran.programs.items) opened
    (subst (λ (ts : List Thread). AreServed thread_acts (at_start m.config m.opening) m ts ran.programs.items)
    c.in_ok-threads.ensures is.served) in
    IfOk-weaker c.run_end.result _ _ (λ run told.
    has_outcome c.performed_histories_are_sequential.ensures test m.config m ran.programs.items
    (ap (λ (k : Config). k.cores) config_is ∙ c.requires.cores) opened
    (c.closed_machines_are_consistent.ensures ran.run is.parts) served
    (well_formed c.args.test.now) run.end (λ done. is.done (sym told.0 ∙ done)) run.state
    (subst (λ (ts : List Thread). Tells test m ts run) c.deref.ensures.value (told.1 m (is.parts, refl))).state)
    c.run_end.ensures
