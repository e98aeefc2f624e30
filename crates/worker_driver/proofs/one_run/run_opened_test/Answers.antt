use Rattle.std.proofs.Common.{◌≡◌, List, refl, ap, sym, subst, length, ◌∙◌}
use Rattle.std.proofs.lemmas.Result.{IfOk-weaker}
use Rattle.std.specs.FinMap.{empty}
use Rattle.litmus_reader.specs.OpeningMemory.{words_opened}
use Rattle.litmus_reader.specs.TestViews.{test_of}
use Rattle.litmus_reader.proofs.Lemmas.{well_formed}
use Rattle.litmus_reader.specs.ThreadSteps.{Thread}
use Rattle.machine_table.specs.Machine.{Machine}
use Rattle.machine_table.specs.Opening.{at_start}
use Rattle.machine_table.specs.Runs.{after_all}
use Rattle.machine_theorem.specs.Consistency.{IsConsistent}
use Rattle.machine_theorem.proofs.Lemmas.{after_all_same}
use Rattle.schedules.specs.Policies.{EndedBy}
use Rattle.machine_theorem.specs.Service.{AreServed}
use Rattle.sequential_machine.specs.Performed.{thread_acts}
use Rattle.worker_driver.proofs.OnOk.{on_ok}
use Rattle.worker_driver.proofs.Rows.{threads_count}
use Rattle.worker_driver.proofs.Sequential.{has_outcome}
use Rattle.worker_driver.proofs.one_run.run_opened_test.Goals as goal

pub run_to_end-end-requires : goal.run_to_end-end-requires
run_to_end-end-requires c = record {
  one_each = ap length (c.as_mut_slice-threads.ensures.value ∙ c.in_ok-started.ensures)
      ∙ threads_count (test_of c.args.test.now) 0 (test_of c.args.test.now).threads
      ∙ sym c.requires.cores;
}

pub run_end-requires : goal.run_end-requires
run_end-requires c = (c.run_to_end-end.new.system, refl)

pub returns-clause-run : goal.returns-clause-run
returns-clause-run c =
    let m : Machine = c.run_to_end-end.new.system in
    let last : List Thread = c.run_to_end-end.new.programs in
    let start = at_start c.args.system.now.config (words_opened (test_of c.args.test.now).items empty) in
    let ended = subst (λ (ts : List Thread). EndedBy thread_acts c.args.policy c.args.limit start ts
    c.run_to_end-end.ensures.ended.0 m last c.run_to_end-end.result)
    (c.as_mut_slice-threads.ensures.value ∙ c.in_ok-started.ensures)
    (subst (λ (k : Machine). EndedBy thread_acts c.args.policy c.args.limit k
    c.as_mut_slice-threads.result.now c.run_to_end-end.ensures.ended.0 m last c.run_to_end-end.result)
    c.requires.opened c.run_to_end-end.ensures.ended.1) in
    IfOk-weaker c.run_end.result _ _ (λ run told. record {
      machine = m;
      threads = last;
      led = (
        c.run_to_end-end.ensures.ended.0,
        subst (λ e. EndedBy thread_acts c.args.policy c.args.limit start
            (Rattle.worker_driver.specs.Runs.threads_from (test_of c.args.test.now) 0 (test_of c.args.test.now).threads)
            c.run_to_end-end.ensures.ended.0 m last e) (sym told.0) ended,
      );
      told = told.1 m refl;
    }) c.run_end.ensures

pub returns-clause-outcome : goal.returns-clause-outcome
returns-clause-outcome c =
    let test = test_of c.args.test.now in
    let config = c.args.system.now.config in
    let words = words_opened test.items empty in
    let m : Machine = c.run_to_end-end.new.system in
    let threads : List Thread = c.run_to_end-end.new.programs in
    let events = c.run_to_end-end.ensures.ended.0 in
    let first = c.requires.opened in
    let after : m ≡ after_all (at_start config words) events =
    c.run_to_end-end.ensures.ended.2 ∙ ap (λ (k : Machine). after_all k events) first in
    let served = subst (λ (ts : List Thread). AreServed thread_acts (at_start config words) m ts threads)
    (c.as_mut_slice-threads.ensures.value ∙ c.in_ok-started.ensures)
    (subst (λ (k : Machine). AreServed thread_acts k m c.as_mut_slice-threads.result.now threads) first
    c.run_to_end-end.ensures.served) in
    let consistent = subst IsConsistent (sym after)
    (c.every_history_is_legal.ensures.consistent config words events c.requires.good) in
    let opened = ap (λ (k : Machine). k.opening) after ∙ c.every_history_is_legal.ensures.opening config words events in
    IfOk-weaker c.run_end.result _ _ (λ run told.
    has_outcome c.performed_histories_are_sequential.ensures test config m threads c.requires.cores opened consistent
    served (well_formed c.args.test.now) run.end (λ done core below. c.run_to_end-end.ensures.all_done
    (sym told.0 ∙ done) core below)
    run.state (told.1 m refl).state) c.run_end.ensures

pub returns-clause-config : goal.returns-clause-config
returns-clause-config c =
    let ended = c.run_to_end-end.ensures.ended in
    on_ok c.run_end.result (ap (λ (m : Machine). m.config) ended.2
    ∙ (after_all_same c.args.system.now ended.0).config)
