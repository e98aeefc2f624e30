-- How a run begins, how it stands where no more is known, and how it has ended.
use Rattle.std.proofs.Common.{◌≡◌, ◌≢◌, ℕ, suc, ◌-◌, ◌<◌, ◌≤◌, Bool, true, false, cond, nat_lt, List, [], ◌∷◌, ◌++◌}
use Rattle.std.proofs.Common.{length, None, inl, inr, refl, sym, ap, ◌∙◌, subst, arith, append-nil, replicate}
use Rattle.std.proofs.lemmas.Bool.{eq-eqb}
use Rattle.std.proofs.lemmas.Bool.Decides.{nat_tests}
use Rattle.std.proofs.lemmas.List.{length-replicate}
use Rattle.std.specs.FinMap.{empty}
use Rattle.physiological_order.specs.declared.operation.Record.{Record}
use Rattle.machine_table.specs.declared.config.Config.{Config}
use Rattle.machine_table.specs.declared.event.Event.{Event}
use Rattle.machine_table.specs.Machine.{Machine, open_op}
use Rattle.machine_table.specs.Opening.{at_start}
use Rattle.machine_table.specs.Runs.{after_all}
use Rattle.machine_table.specs.SetUp.{is_good}
use Rattle.programs.specs.declared.ends.End.{End}
use Rattle.programs.specs.declared.ends.End.TheVariants.{AllDone, Stalled, TurnsUsed, Exhausted, NoMemory}
use Rattle.programs.specs.declared.steps.Step.{Step}
use Rattle.schedules.specs.declared.policy.Policy.{Policy}
use Rattle.schedules.specs.LongerLists.{end_before, joined, step_acts}
use Rattle.schedules.specs.Paces.{Paced, paced}
use Rattle.schedules.specs.Policies.{EndsBy}
use Rattle.trace_reader.specs.Filling.{AheadState, HasTaken, unnumbered}
use Rattle.trace_reader.specs.Steps.{cores_of, lane, named, ops_of, steps_of}
use Rattle.trace_reader.proofs.Lemmas.{cores-append}
use Rattle.streamed_runs.specs.declared.summary.Summary.{Summary}
use Rattle.streamed_runs.specs.StreamStates.{HasEnded, IsGoing, MayFollow, StreamState, end_with, lanes_for}
use Rattle.streamed_runs.specs.Summaries.{summary_of}
use Rattle.streamed_runs.proofs.GoingRuns.{met_all, words_all}
use Rattle.streamed_runs.proofs.JoinedLanes.{ends_here, ends_later, lane_of, lanes_count, lanes_joined, no_steps}
use Rattle.streamed_runs.proofs.JoinedLanes.{nothing_behind, nothing_follows, nothing_in}

-- at first, by the law `nothing_is_done_at_first` of schedules (begins)
module _ (begins : (keeps : Bool) (policy : Policy) (m : Machine) (behind : List (List Step)) →
    ((core : ℕ) → open_op m core ≡ None) → length behind ≡ m.config.cores →
    let lists = joined (replicate m.config.cores []) behind in
    EndsBy keeps step_acts policy 0 m lists [] m lists (end_before behind AllDone)) (config : Config) (idle : (core
    : ℕ) → open_op (at_start config empty) core ≡ None)
    (good : is_good config ≡ true) (policy : Policy) (limit : ℕ)
    (ahead : AheadState) (queues : ahead.queues ≡ replicate config.cores []) (met : ahead.met ≡ 0)
    (words : ahead.words ≡ empty) where
  no_words : (names : Bool) → named names empty [] ≡ empty
  unfolding ops_of
  no_words true = refl
  no_words false = refl

  first_stands : (more : List (List Step)) → length more ≡ config.cores →
      EndsBy true step_acts policy (limit - limit) (at_start config empty) (joined (lanes_for config.cores []) more) []
      (at_start config empty) (joined ahead.queues more) (end_before more AllDone)
  first_stands more many =
      let none : 0 ≡ limit - limit = omega arith in
      subst (λ (lanes : List (List Step)). EndsBy true step_acts policy (limit - limit) (at_start config empty)
      (joined (lanes_for config.cores []) more) [] (at_start config empty) (joined lanes more)
      (end_before more AllDone)) (sym queues)
      (subst (λ (lanes : List (List Step)). EndsBy true step_acts policy (limit - limit) (at_start config empty)
      (joined lanes more) [] (at_start config empty) (joined (replicate config.cores []) more)
      (end_before more AllDone)) (sym (no_steps config.cores))
      (subst (λ (n : ℕ). EndsBy true step_acts policy n (at_start config empty)
      (joined (replicate config.cores []) more) [] (at_start config empty) (joined (replicate config.cores []) more)
      (end_before more AllDone)) none
      (begins true policy (at_start config empty) more idle many)))

  first : let none = summary_of [] in IsGoing [] (record {
    machine = at_start config empty;
    ahead = ahead;
    pace = paced policy 0;
    limit = limit;
    left = limit;
    end = AllDone;
    at_end = false;
    done = [];
    kinds = none.kinds;
    stale = none.stale;
    latest = none.latest;
  })
  first = let none : 0 ≡ limit - limit = omega arith in record {
    events = [];
    leads = refl;
    ended = λ more many follows. first_stands more many;
    within = omega arith;
    goes = inr (inl (refl, refl), ap (paced policy) none);
    idle = λ is core. ap (λ (lanes : List (List Step)). lane lanes core) queues ∙ nothing_in config.cores core;
    few = omega arith;
    met = met;
    words = words ∙ sym (no_words ahead.names);
    rising = tt;
    kinds = refl;
    stale = refl;
    latest = refl;
    good = good;
  }

  pub is_first : (m : Machine) (pace : Paced) (summary : Summary) (done : List Record) → m ≡ at_start config empty →
      pace ≡ paced policy 0 → summary ≡ summary_of [] → done ≡ [] → IsGoing [] (record {
        machine = m;
        ahead = ahead;
        pace = pace;
        limit = limit;
        left = limit;
        end = AllDone;
        at_end = false;
        done = done;
        kinds = summary.kinds;
        stale = summary.stale;
        latest = summary.latest;
      })
  is_first m pace summary done opened begins none no_records = rw (opened, begins, none, no_records) first

-- So far, the run is that of the text that was read, as if no more were to come.
pub run_so_far : (taken : List (ℕ × (ℕ × Step))) (s : StreamState) → IsGoing taken s →
    (events : List Event) × (programs : List (List Step))
    × EndsBy true step_acts s.pace.policy (s.limit - s.left) (at_start s.machine.config empty)
    (lanes_for s.machine.config.cores (unnumbered taken)) events s.machine programs s.end
    × (s.machine ≡ after_all (at_start s.machine.config empty) events)
run_so_far taken s going =
    let cores = s.machine.config.cores in let lanes = lanes_for cores (unnumbered taken) in
    let nothing = replicate cores [] in (
      going.events,
      joined s.ahead.queues nothing,
      subst (λ (end : End). EndsBy true step_acts s.pace.policy (s.limit - s.left) (at_start s.machine.config empty)
          lanes
          going.events s.machine (joined s.ahead.queues nothing) end) (ends_here cores s.end)
          (subst (λ (all : List (List Step)). EndsBy true step_acts s.pace.policy (s.limit - s.left)
          (at_start s.machine.config empty) all going.events s.machine (joined s.ahead.queues nothing)
          (end_before nothing s.end)) (nothing_behind lanes cores (lanes_count cores (unnumbered taken)))
          (going.ended nothing (length-replicate cores []) (nothing_follows s.at_end cores))),
      going.leads,
    )

-- the rest of the text was read, and all of it has such steps
module _ (taken more : List (ℕ × (ℕ × Step))) (s : StreamState) (going : IsGoing taken s) (over : s.left ≡ 0)
    (ahead : AheadState) (met : ahead.met ≡ cores_of (unnumbered (taken ++ more)))
    (words : ahead.words ≡ named ahead.names empty (unnumbered (taken ++ more)))
    (few : cores_of (unnumbered (taken ++ more)) ≤ s.machine.config.cores) where
  abbrev cores : ℕ
  cores = s.machine.config.cores

  abbrev rest : List (List Step)
  rest = lanes_for cores (unnumbered more)

  has_ended : (end : End) → end ≡ end_before rest s.end → MayFollow s.at_end rest → (at_end : Bool) →
      HasEnded (taken ++ more) (record s { ahead = ahead; end = end; at_end = at_end })
  has_ended end is follows at_end =
      let all : s.limit - s.left ≡ s.limit = omega (arith, over) in record {
        events = going.events;
        programs = joined s.ahead.queues rest;
        leads = going.leads;
        ended = subst (λ (n : ℕ). EndsBy true step_acts s.pace.policy n (at_start s.machine.config empty)
            (lanes_for cores (unnumbered (taken ++ more))) going.events s.machine (joined s.ahead.queues rest) end) all
            (subst (λ (e : End). EndsBy true step_acts s.pace.policy (s.limit - s.left) (at_start s.machine.config
            empty)
            (lanes_for cores (unnumbered (taken ++ more))) going.events s.machine (joined s.ahead.queues rest) e)
            (sym is)
            (subst (λ (lanes : List (List Step)). EndsBy true step_acts s.pace.policy (s.limit - s.left)
            (at_start s.machine.config empty) lanes going.events s.machine (joined s.ahead.queues rest)
            (end_before rest s.end)) (sym (lanes_joined cores taken more))
            (going.ended rest (lanes_count cores (unnumbered more)) follows)));
        few = few;
        met = met;
        words = words;
        rising = going.rising;
        kinds = going.kinds;
        stale = going.stale;
        good = going.good;
      }

-- the text had been read to its end
pub ended_already : (taken : List (ℕ × (ℕ × Step))) (s : StreamState) → IsGoing taken s → s.left ≡ 0 →
    HasEnded (taken ++ []) s
ended_already taken s going over =
    let cores = s.machine.config.cores in let all = ap unnumbered (append-nil taken) in
    has_ended taken [] s going over s.ahead (going.met ∙ ap cores_of (sym all))
    (going.words ∙ ap (λ (told : _). named s.ahead.names empty told) (sym all))
    (subst (λ (told : _). cores_of told ≤ cores) (sym all) going.few) s.end
    (sym (ap (λ (lanes : List (List Step)). end_before lanes s.end) (no_steps cores) ∙ ends_here cores s.end))
    (subst (MayFollow s.at_end) (sym (no_steps cores)) (nothing_follows s.at_end cores)) s.at_end

-- where a step is left, all isn't done
step_left : (n : ℕ) (one : ℕ × (ℕ × Step)) (more : List (ℕ × (ℕ × Step))) → one.1.0 < n →
    end_before (lanes_for n (unnumbered (one ∷ more))) AllDone ≡ TurnsUsed
step_left n one more below =
    ends_later (lanes_for n (unnumbered (one ∷ more))) one.1.0
    (λ none. has_one (sym (lane_of n (unnumbered (one ∷ more)) one.1.0 below) ∙ none))
  where
    some : (step : Step) (steps : List Step) → step ∷ steps ≢ []
    some step steps is = absurd cc

    has_one : steps_of one.1.0 (unnumbered (one ∷ more)) ≢ []
    has_one none =
        let later = steps_of one.1.0 (unnumbered more) in
        some one.1.1 later
        (sym (ap (λ (b : Bool). cond b (one.1.1 ∷ later) later) (eq-eqb one.1.0 one.1.0 refl)) ∙ none)

some_more : (n : ℕ) → nat_lt 0 (suc n) ≡ true
some_more n = grind (arith, nat_tests)

rest_end : (n : ℕ) (more : List (ℕ × (ℕ × Step))) (end : End) → cores_of (unnumbered more) ≤ n →
    end_with end (nat_lt 0 (length more)) ≡ end_before (lanes_for n (unnumbered more)) end
rest_end n [] AllDone few =
    sym (ap (λ (lanes : List (List Step)). end_before lanes AllDone) (no_steps n) ∙ ends_here n AllDone)
rest_end n (one ∷ more) AllDone few =
    ap (λ (b : Bool). cond b TurnsUsed AllDone) (some_more (length more)) ∙ sym (step_left n one more (omega (
      arith,
      few,
    )))
rest_end n more Stalled few = refl
rest_end n more TurnsUsed few = refl
rest_end n more Exhausted few = refl
rest_end n more NoMemory few = refl

-- the rest was read, and queued nowhere
pub ended_behind : (taken more : List (ℕ × (ℕ × Step))) (s : StreamState) → IsGoing taken s → s.left ≡ 0 →
    s.at_end ≡ false → length s.ahead.queues ≡ s.machine.config.cores → (ahead : AheadState) →
    HasTaken false s.ahead ahead more → (has_more : Bool) →
    has_more ≡ nat_lt 0 (length more) → (at_end : Bool) →
    HasEnded (taken ++ more) (record s { ahead = ahead; end = end_with s.end has_more; at_end = at_end })
ended_behind taken more s going over goes one_each ahead filled has_more is at_end =
    let cores = s.machine.config.cores in
    let sum = cores-append taken more in let old = going.few in let new = filled.few in
    let all : cores_of (unnumbered (taken ++ more)) ≤ cores = omega (arith, sum, old, new, one_each) in
    has_ended taken more s going over ahead (met_all false taken more s.ahead ahead filled going.met)
    (words_all false taken more s.ahead ahead filled going.words) all
    (end_with s.end has_more)
    (ap (end_with s.end) is ∙ rest_end cores more s.end (omega (arith, all, sum)))
    (subst (λ (b : Bool). MayFollow b (lanes_for cores (unnumbered more))) (sym goes) tt) at_end
