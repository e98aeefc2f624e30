-- A run of a trace that was read as the run went is one of the steps that were read, by core.
use Rattle.std.proofs.Common.{◌≡◌, ◌≤◌, ◌<◌, ◌+◌, ◌-◌, ◌&&◌, ℕ, zero, suc, Bool, true, List, [], ◌∷◌, ◌++◌, length}
use Rattle.std.proofs.Common.{refl, sym, ap, subst, ◌∙◌, arith}
use Rattle.std.proofs.lemmas.Bool.{and_parts, leb-true}
use Rattle.std.proofs.lemmas.List.{get_or_past}
use Rattle.std.specs.FinMap.{FinMap, empty}
use Rattle.std.specs.Ordering.{nat_cmp}
use Rattle.std.specs.Prelude.{slice_index_or}
use Rattle.machine_table.specs.declared.config.Config.{Config}
use Rattle.machine_table.specs.declared.event.Event.{Event}
use Rattle.machine_table.specs.Machine.{Machine}
use Rattle.machine_table.specs.Opening.{at_start}
use Rattle.machine_table.specs.Runs.{after_all}
use Rattle.machine_table.specs.SetUp.{is_good, is_within}
use Rattle.machine_theorem.specs.Consistency.{IsConsistent}
use Rattle.machine_theorem.specs.Service.{AreServed}
use Rattle.physiological_order.specs.StaleHits.{RisesByNumber}
use Rattle.programs.specs.declared.ends.End.{End}
use Rattle.programs.specs.declared.steps.Step.{Step}
use Rattle.run_options.specs.declared.options.StreamOptions.{StreamOptions}
use Rattle.schedules.specs.declared.policy.Policy.{Policy}
use Rattle.schedules.specs.Policies.{EndsBy}
use Rattle.streamed_runs.specs.StreamStates.{issued_below, lanes_for}
use Rattle.trace_reader.specs.Filling.{unnumbered}
use Rattle.trace_reader.specs.Steps.{cores_of, ops_of, trace_cores}
use Rattle.worker_driver.specs.SetUp.{driver_of}
use Rattle.worker_driver.specs.declared.set_up.Driver.TheVariants.{ByPolicy}
use Rattle.report.specs.Runs.{IsTraceRun, programs_below, step_acts}
use Rattle.report.specs.Streams.{IsStreamRun, stream_config}
use Rattle.report.proofs.InTrace.{in_lane, is_run}
use Rattle.report.proofs.LanesByCore.{by_core, same_lanes}

-- a good machine has 1 to 64 cores
pub some_cores : (c : Config) → is_good c ≡ true → (1 ≤ c.cores) × (c.cores ≤ 64)
some_cores c good =
    let first = λ (a b : Bool) (both : (a && b) ≡ true). (and_parts a b both).0 in
    let within = first (is_within c.cores 64) _ (first _ _ (first _ _ (first _ _ (first _ _ (first _ _ good))))) in
    let parts = and_parts _ _ within in
    (leb-true 1 c.cores parts.0, leb-true c.cores 64 parts.1)

-- cores behind a number that were issued nothing
idle_behind : (m : Machine) (few more : ℕ) →
    ((core : ℕ) → few ≤ core → core < few + more → slice_index_or m.issued core [] ≡ []) →
    issued_below m (few + more) ≡ issued_below m few
idle_behind m few zero idle = ap (issued_below m) (omega arith)
idle_behind m few (suc more) idle =
    let next : few + suc more ≡ suc (few + more) = omega arith in
    let none = ap length (idle (few + more) (omega arith) (omega arith)) in
    ap (issued_below m) next ∙ ap (λ n. issued_below m (few + more) + n) none
    ∙ omega arith ∙ idle_behind m few more (λ core past below. idle core past (omega (arith, below)))

-- a list of which what stands in front is nothing
nothing : {X : Type 0} (xs ys : List X) → [] ≡ xs ++ ys → xs ≡ []
nothing [] ys is = refl
nothing (x ∷ xs) ys is = absurd cc

no_operations : ops_of [] ≡ []
unfolding ops_of
no_operations = refl

-- what every run by a policy keeps: every_history_is_legal and runs_serve_programs
pub record Laws : Type 0 where
  pub legal : (config : Config) (events : List Event) → is_good config ≡ true →
      IsConsistent (after_all (at_start config empty) events)
  pub opening : (config : Config) (events : List Event) → (after_all (at_start config empty) events).opening ≡ empty
  pub serves : (config : Config) (policy : Policy) (limit : ℕ) (m : Machine) (before after : List (List Step))
      (events : List Event) (end : End) → is_good config ≡ true →
      EndsBy true step_acts policy limit (at_start config empty) before events m after end →
      AreServed step_acts (at_start config empty) m before after

pub laws_by : ((config : Config) (memory : FinMap nat_cmp ℕ) (events : List Event) → is_good config ≡ true →
    IsConsistent (after_all (at_start config memory) events)) →
    ((config : Config) (memory : FinMap nat_cmp ℕ) (events : List Event) →
    (after_all (at_start config memory) events).opening ≡ memory) →
    ((config : Config) (memory : FinMap nat_cmp ℕ) (earlier : List Event) → is_good config ≡ true →
    (keeps : Bool) (policy : Policy) (limit : ℕ) (m : Machine) (before after : List (List Step)) (events : List Event)
    (end : End) →
    EndsBy keeps step_acts policy limit (after_all (at_start config memory) earlier) before events m after end →
    AreServed step_acts (after_all (at_start config memory) earlier) m before after) → Laws
laws_by consistent opening serves = record {
  legal = λ config events good. consistent config empty events good;
  opening = λ config events. opening config empty events;
  serves = λ config policy limit m before after events end good ended.
      serves config empty [] good true policy limit m before after events end ended;
}

-- such a run, on the machine that the options ask for
pub record Led (options : StreamOptions) (turns : ℕ) (taken : List (ℕ × (ℕ × Step))) (end : End) (m : Machine) : Type 0
  where
    pub config : Config
    pub set_up : config ≡ stream_config options
    pub policy : Policy
    pub driver : driver_of options.run ≡ ByPolicy policy
    pub events : List Event
    pub programs : List (List Step)
    pub leads : m ≡ after_all (at_start config empty) events
    pub ended : EndsBy true step_acts policy turns (at_start config empty) (lanes_for config.cores (unnumbered taken))
        events m programs end
    pub few : cores_of (unnumbered taken) ≤ config.cores
    pub rising : RisesByNumber m.records

module _ (laws : Laws) (options : StreamOptions) (turns : ℕ) (taken : List (ℕ × (ℕ × Step))) (end : End) (m : Machine)
    (good : is_good (stream_config options) ≡ true) (led : Led options turns taken end m) where
  abbrev told : List (ℕ × Step)
  told = unnumbered taken

  abbrev lanes : List (List Step)
  lanes = lanes_for (cores_of told) told

  good_here : is_good led.config ≡ true
  good_here = subst (λ k. is_good k ≡ true) (sym led.set_up) good

  same : lanes_for led.config.cores told ≡ programs_below lanes led.config.cores
  same = same_lanes told lanes (by_core told) led.config.cores

  served : AreServed step_acts (at_start led.config empty) m (programs_below lanes led.config.cores) led.programs
  served = subst (λ ps. AreServed step_acts (at_start led.config empty) m ps led.programs) same
      (laws.serves led.config led.policy turns m (lanes_for led.config.cores told) led.programs led.events end good_here
      led.ended)

  by_policy : IsTraceRun true (ByPolicy led.policy) turns led.config lanes end m
  by_policy =
      let ended = subst (λ ps. EndsBy true step_acts led.policy turns (at_start led.config empty) ps led.events m
      led.programs end) same led.ended in
      is_run lanes led.config m led.programs served (subst IsConsistent (sym led.leads)
      (laws.legal led.config led.events good_here)) (ap (λ k. k.opening) led.leads ∙ laws.opening led.config led.events)
      led.rising (some_cores led.config good_here).1 true (ByPolicy led.policy) turns end (led.events, ended)

  idle : (core : ℕ) → length lanes ≤ core → core < led.config.cores → slice_index_or m.issued core [] ≡ []
  idle core past below =
      let more = in_lane lanes led.config m led.programs served core below in
      nothing (slice_index_or m.issued core []) more.0
      (sym no_operations ∙ ap ops_of (sym (get_or_past lanes core [] past)) ∙ more.1)

  -- cores past the trace's were issued nothing
  issued_same : issued_below m led.config.cores ≡ issued_below m (trace_cores lanes)
  issued_same =
      let count = (by_core told).0 in
      let few = led.few in
      let some = (some_cores led.config good_here).0 in
      let rest = led.config.cores - trace_cores lanes in
      let all : trace_cores lanes + rest ≡ led.config.cores = omega (arith, count, few, some) in
      ap (issued_below m) (sym all)
      ∙ idle_behind m (trace_cores lanes) rest (λ core past below.
      idle core (omega (arith, past)) (omega (arith, below, all)))

  pub stream_run : (ran : IsStreamRun options turns taken end m)
      × (issued_below m led.config.cores ≡ issued_below m (trace_cores ran.lanes))
  stream_run =
      let count = (by_core told).0 in let cores = ap (λ k. k.cores) led.set_up in let few = led.few in (
        record {
          lanes = lanes;
          by_core = by_core told;
          few = omega (arith, count, cores, few);
          run = subst (λ k. IsTraceRun true (driver_of options.run) turns k lanes end m) led.set_up
              (subst (λ d. IsTraceRun true d turns led.config lanes end m) (sym led.driver) by_policy);
        },
        issued_same,
      )
