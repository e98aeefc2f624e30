use Rattle.std.proofs.Common.{◌≡◌, ℕ, Bool, List, ap, sym, subst, length, ◌∙◌, arith}
use Rattle.std.specs.FinMap.{empty}
use Rattle.physiological_order.specs.StaleHits.{RisesByNumber}
use Rattle.machine_table.specs.declared.config.Config.{Config}
use Rattle.machine_table.specs.declared.event.Event.{Event}
use Rattle.machine_table.specs.Machine.{Machine}
use Rattle.machine_table.specs.Opening.{at_start}
use Rattle.machine_table.specs.Runs.{after_all}
use Rattle.machine_theorem.specs.Consistency.{IsConsistent}
use Rattle.programs.specs.declared.ends.End.{End}
use Rattle.programs.specs.declared.steps.Step.{Step}
use Rattle.schedules.specs.declared.policy.Policy.{Policy}
use Rattle.schedules.specs.Policies.{EndsBy}
use Rattle.schedules.specs.Watches.{watched}
use Rattle.machine_theorem.specs.Service.{AreServed}
use Rattle.trace_reader.specs.Steps.{trace_cores}
use Rattle.worker_driver.specs.declared.set_up.Driver.TheVariants.{ByPolicy}
use Rattle.report.specs.Runs.{programs_below, step_acts}
use Rattle.report.proofs.CoreCounts.{programs_count}
use Rattle.report.proofs.InTrace.{is_run}
use Rattle.report.proofs.one_run.run_trace_by_policy.Goals as goal

-- a run from a machine and programs that are those of the trace
of_trace : (policy : Policy) (limit : ℕ) (config : Config) (lanes : List (List Step)) (asks : Bool) (start : Machine)
    (before : List (List Step)) (events : List Event) (m : Machine) (last : List (List Step)) (end : End) →
    start ≡ at_start config empty → before ≡ programs_below lanes config.cores →
    EndsBy asks step_acts policy limit start before events m last end →
    EndsBy asks step_acts policy limit (at_start config empty) (programs_below lanes config.cores) events m last end
of_trace policy limit config lanes asks start before events m last end opened given ended =
    subst (λ (ts : List (List Step)). EndsBy asks step_acts policy limit (at_start config empty) ts events m last end)
    given (subst (λ (k : Machine). EndsBy asks step_acts policy limit k before events m last end) opened ended)

pub run_watched-end-requires : goal.run_watched-end-requires
run_watched-end-requires g c = record {
  one_each = ap length (c.as_mut_slice-steps.ensures.value ∙ c.in_ok-programs.ensures)
      ∙ programs_count c.args.trace.now (trace_cores c.args.trace.now)
      ∙ sym c.requires.cores ∙ sym (ap (λ (m : Machine). m.config.cores) c.in-Ok.ensures.opened);
}

pub returns-clause-run : goal.returns-clause-run
returns-clause-run g c =
    let config = c.args.config in
    let m : Machine = c.run_watched-end.new.system in
    let last = c.run_watched-end.new.programs in
    let ended = c.run_watched-end.ensures.ended in
    let first = c.in-Ok.ensures.opened ∙ ap (at_start config) c.new.ensures in
    let given = c.as_mut_slice-steps.ensures.value ∙ c.in_ok-programs.ensures
    ∙ ap (programs_below c.args.trace.now) (sym c.requires.cores) in
    let after : m ≡ after_all (at_start config empty) ended.0 =
    ended.2 ∙ ap (λ (k : Machine). after_all k ended.0) first in
    let consistent = subst IsConsistent (sym after)
    (c.every_history_is_legal.ensures.consistent config empty ended.0 c.requires.good) in
    let opened : m.opening ≡ empty = ap (λ (k : Machine). k.opening) after
    ∙ c.every_history_is_legal.ensures.opening config empty ended.0 in
    let served = subst (λ (ts : List (List Step)). AreServed step_acts (at_start config empty) m ts last) given
    (subst (λ (k : Machine). AreServed step_acts k m c.as_mut_slice-steps.result.now last) first
    c.run_watched-end.ensures.served) in
    is_run c.args.trace.now config m last served consistent opened
    (subst RisesByNumber c.records-rising.ensures.records c.records-rising.ensures.rising)
    (let few = c.cores-few.ensures.few in let same = c.cores-few.ensures.cores in let cores = c.requires.cores in
    omega (arith, few, same, cores)) g.W.Watcher.watches.asks (ByPolicy c.args.policy) c.args.limit
    c.run_watched-end.result.0 (
      ended.0,
      of_trace c.args.policy c.args.limit config c.args.trace.now _ _ _ ended.0 m last c.run_watched-end.result.0
          first given ended.1,
    )

pub returns-clause-watched : goal.returns-clause-watched
returns-clause-watched g c =
    let ended = c.run_watched-end.ensures.ended in
    let first = c.in-Ok.ensures.opened ∙ ap (at_start c.args.config) c.new.ensures in record {
      events = ended.0;
      programs = c.run_watched-end.new.programs;
      ended = of_trace c.args.policy c.args.limit c.args.config c.args.trace.now _ _ _ ended.0
          c.run_watched-end.new.system c.run_watched-end.new.programs c.run_watched-end.result.0
          first (c.as_mut_slice-steps.ensures.value ∙ c.in_ok-programs.ensures
          ∙ ap (programs_below c.args.trace.now) (sym c.requires.cores)) ended.1;
      seen = ended.3 ∙ ap (λ (k : Machine). watched g.W.Watcher.watches (g.W.Watcher.watches.seen c.args.watcher) k
          ended.0) first;
    }
