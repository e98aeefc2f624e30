-- One round on one core without an open operation: none of an empty list, and a first event of a longer one.
use Rattle.std.proofs.Common.{◌≡◌, ◌≢◌, ◌⊎◌, ℕ, ◌<◌, ◌≤◌, ◌&&◌, is_none, Bool, false, cond, List, [], ◌∷◌}
use Rattle.std.proofs.Common.{◌++◌, length, Option, None, Some, inl, inr, refl, sym, ap, ◌∙◌, subst, arith}
use Rattle.physiological_order.specs.declared.operation.Op.{Op}
use Rattle.machine_table.specs.declared.event.Event.{Event}
use Rattle.machine_table.specs.Machine.{Machine, open_op}
use Rattle.programs.specs.declared.ends.End.{End}
use Rattle.programs.specs.declared.ends.End.TheVariants.{AllDone, TurnsUsed, NoMemory}
use Rattle.programs.specs.declared.steps.Step.{Step}
use Rattle.programs.specs.declared.steps.Step.TheVariants as step
use Rattle.programs.specs.Acts.{next_in}
use Rattle.schedules.specs.Parts.{Action, Standing, Part, after_actions, events_of, followed_by, for_each}
use Rattle.schedules.specs.RoundSchedule.{Round, no_round, step_action, step_of, steps_on, attempts, core_turn}
use Rattle.schedules.specs.RoundSchedule.{core_turns, deliveries, round_of, rounds}
use Rattle.schedules.specs.Runs.{Plan, Position, are_over, plan_of, opened, initial_position, one_more, run}
use Rattle.schedules.specs.Runs.{Ended}
use Rattle.schedules.specs.LongerLists.{step_acts}
use Rattle.schedules.proofs.RunLaws.{not_cut}

-- with something behind it, a list of one step is ahead of one turn alone
pub one_is_short : (a b : Step) → ((b ∷ []) ≡ []) ⊎ (2 ≤ length (a ∷ [])) → ⊥
one_is_short a b (inl none) = absurd (cc)
one_is_short a b (inr enough) = absurd (omega (arith, enough))

-- a part makes this first
record Starts (x : Action) (part : Part (List Step)) (s : Standing (List Step)) : Type 0 where
  rest : List Action
  is : part s ≡ x ∷ rest

starts_then : {x : Action} (f g : Part (List Step)) (s : Standing (List Step)) → Starts x f s →
    Starts x (followed_by step_acts f g) s
starts_then f g s starts = record {
  rest = starts.rest ++ g (after_actions step_acts s (f s));
  is = ap (λ (xs : List Action). xs ++ g (after_actions step_acts s (f s))) starts.is;
}

makes_one : (m : Machine) (lists : List (List Step)) (core : ℕ) (a : Step) (rest : List Action) →
    0 < length (events_of step_acts (opened m lists) (step_action core a ∷ rest))
makes_one m lists core (step.Op op) rest = omega arith
makes_one m lists core step.Advance rest = omega arith

module _ (m : Machine) (one_core : m.config.cores ≡ 1) (free : open_op m 0 ≡ None) where
  abbrev plan : Plan (List Step) Round
  plan = plan_of step_acts (rounds step_acts) 1

  abbrev start : List (List Step) → Position (List Step) Round
  start lists = initial_position step_acts m lists (no_round false m.config.cores)

  over : (lists : List (List Step)) → are_over step_acts m lists m.config.cores ≡ is_none (next_in step_acts lists 0)
  over lists =
      ap (are_over step_acts m lists) one_core
      ∙ ap (λ (o : Option (Op × Bool)). is_none o && is_none (next_in step_acts lists 0)) free

  ran : (lists : List (List Step)) (e : End) → (start lists).end ≡ e →
      run plan 1 (start lists) ≡ one_more plan e (start lists)
  unfolding run
  ran lists e is = ap (λ (f : End). one_more plan f (start lists)) is

  pub short_ends : (keeps : Bool) → Ended keeps plan (start ([] ∷ [])) [] m ([] ∷ []) AllDone
  short_ends keeps =
      let done : (start ([] ∷ [])).end ≡ AllDone =
      ap (λ (b : Bool). cond b AllDone TurnsUsed) (over ([] ∷ [])) in
      let same = ran ([] ∷ []) AllDone done in record {
        last = opened m ([] ∷ []);
        machine_is = refl;
        programs_are = refl;
        ends = inl (record {
          standing_is = ap (λ (p : Position (List Step) Round). p.standing) same;
          events_are = ap (λ (p : Position (List Step) Round). p.events) same;
          end_is = ap (λ (p : Position (List Step) Round). p.end) same ∙ done;
        });
      }

  module _ (a : Step) where
    abbrev lists : List (List Step)
    lists = (a ∷ []) ∷ []

    abbrev opening : Standing (List Step)
    opening = opened m lists

    step_first : Starts (step_action 0 a) (steps_on step_acts 0) opening
    step_first = record {
      rest = [];
      is = ap (λ (o : Option (Op × Bool)). step_of 0 o (Some a) opening) free;
    }

    round_first : Starts (step_action 0 a) (round_of step_acts (no_round false m.config.cores)) opening
    round_first =
        starts_then (core_turns step_acts m.config.cores) (deliveries step_acts false) opening
        (subst (λ (cores : ℕ). Starts (step_action 0 a) (core_turns step_acts cores) opening) (sym one_core)
        (starts_then (core_turn step_acts 0) (for_each step_acts (core_turn step_acts) []) opening
        (starts_then (steps_on step_acts 0) (attempts step_acts 0) opening step_first)))

    pub longer_makes : (keeps : Bool) (events : List Event) (after : Machine) (left : List (List Step)) (e : End) →
        Ended keeps plan (start lists) events after left e → e ≢ NoMemory → 0 < length events
    longer_makes keeps events after left e ended had =
        let begun : (start lists).end ≡ TurnsUsed = ap (λ (b : Bool). cond b AllDone TurnsUsed) (over lists) in
        let made : events_of step_acts opening (step_action 0 a ∷ round_first.rest) ≡ events =
        ap (events_of step_acts opening) (sym round_first.is)
        ∙ sym (ap (λ (p : Position (List Step) Round). p.events) (ran lists TurnsUsed begun))
        ∙ (not_cut ended had).events_are in
        subst (λ (es : List Event). 0 < length es) made (makes_one m lists 0 a round_first.rest)
