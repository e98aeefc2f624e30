-- Turns over lists of steps with more behind them: they make the same actions, and take at most one step of a core.
use Rattle.std.proofs.Common.{◌≡◌, ◌≢◌, ℕ, zero, suc, ◌+◌, ◌<◌, ◌≤◌, ◌%◌, Bool, true, false, cond, List, [], ◌∷◌, ◌++◌}
use Rattle.std.proofs.Common.{map, Option, Some, None, inl, inr, refl, sym, ap, ap₂, ◌∙◌, subst, arith, ◌&&◌}
use Rattle.std.specs.Prelude.{option_map, slice_get}
use Rattle.std.specs.List.{flat_map, range_with_len}
use Rattle.std.proofs.lemmas.Bool.{cases_Bool, cond_both, true≢false}
use Rattle.physiological_order.specs.declared.operation.Op.{Op}
use Rattle.core_pts.specs.CoreTable.{CoreState}
use Rattle.machine_table.specs.declared.event.Event.{Event}
use Rattle.machine_table.specs.declared.event.Event.TheVariants as event
use Rattle.machine_table.specs.declared.event.Answer.{Answer}
use Rattle.machine_table.specs.declared.event.Answer.TheVariants as answer
use Rattle.machine_table.specs.Machine.{Machine, open_op, open_op_of, operation_of}
use Rattle.machine_table.specs.Transition.{transition}
use Rattle.interleaving_core.specs.LookUps.{victim_for_core, make_room}
use Rattle.programs.specs.declared.steps.Step.{Step}
use Rattle.programs.specs.declared.steps.Step.TheVariants as step
use Rattle.programs.specs.Acts.{next_in, done_in}
use Rattle.schedules.specs.Parts.{Action, Does, Advances, Lists, Standing, Part, after_action, after_actions}
use Rattle.schedules.specs.Parts.{after_answer, events_of_one, events_of, programs_told, told_advance, is_advanced}
use Rattle.schedules.specs.Parts.{is_evicted, is_held, is_no_room, followed_by, for_each, one, only_if, copy_leaves}
use Rattle.schedules.specs.Parts.{makes_place, finds_no_place, tries, line_leaves, makes_room, delivery}
use Rattle.schedules.specs.RoundSchedule.{Round, rising, numbers_in_flight, step_of, steps_on, tries_twice, attempt_of}
use Rattle.schedules.specs.RoundSchedule.{attempts, core_turn, core_turns, deliveries, round_of}
use Rattle.schedules.specs.SeedSchedule.{Choice, Makes, Evicts, Tries, Delivers, Nothing, core_step, drawn_list}
use Rattle.schedules.specs.SeedSchedule.{choice_at, chosen, drawn}
use Rattle.schedules.specs.LongerLists.{step_acts, joined}
use Rattle.schedules.proofs.JoinedLists.{Ready, TakesOne, done_joined, has_one, next_joined, none_taken, one_taken}
use Rattle.schedules.proofs.JoinedLists.{ready_for_less}
use Rattle.schedules.proofs.Parts.{after_both}
use Rattle.schedules.proofs.Served.{none_open, untold}
use Rattle.schedules.proofs.TableSteps.{op_at, is_completion, not_completed, issue_does, attempt_does, advance_stays}
use Rattle.schedules.proofs.TableSteps.{delivery_stays, cache_eviction_stays, bank_eviction_stays}

-- a core without an operation has none out
open_none : (m : Machine) (core : ℕ) → op_at m core ≡ None → open_op m core ≡ None
open_none m core none = by_core (slice_get m.cores core) none
  where
    by_core : (o : Option CoreState) → operation_of o ≡ None → open_op_of o ≡ None
    by_core None is = refl
    by_core (Some state) is = ap (option_map {U = Op × Bool} (λ op. (op, state.is_out))) is

-- the program that an answer tells something is this core's
abbrev Concerns : ℕ → Answer → Type 0
Concerns c (answer.Completed done) = done.core ≡ c
Concerns c _ = Unit {0}

concerns_none : (c : ℕ) (a : Answer) → is_completion a ≡ false → Concerns c a
concerns_none c (answer.Completed done) silent = absurd (true≢false silent)
concerns_none c _ silent = tt

concerns_one : (a : Answer) → (c : ℕ) × Concerns c a
concerns_one (answer.Completed done) = (done.core, refl)
concerns_one _ = (0, tt)

no_place_completes_nothing : (a : Answer) → is_no_room a ≡ true → is_completion a ≡ false
no_place_completes_nothing (answer.Completed done) is = absurd (true≢false (sym is))
no_place_completes_nothing _ is = refl

module _ (behind : List (List Step)) where
  -- the same, where each list has what stands behind it
  abbrev pub longer : Standing (List Step) → Standing (List Step)
  longer s = record s { programs = joined s.programs behind }

  -- each of these actions does the same there
  abbrev pub AreAlike : Standing (List Step) → List Action → Type 0
  AreAlike s [] = Unit {0}
  AreAlike s (action ∷ actions) =
      (after_action step_acts (longer s) action ≡ longer (after_action step_acts s action))
      × AreAlike (after_action step_acts s action) actions

  both_alike : (s : Standing (List Step)) (xs ys : List Action) → AreAlike s xs →
      AreAlike (after_actions step_acts s xs) ys → AreAlike s (xs ++ ys)
  both_alike s [] ys first second = second
  both_alike s (x ∷ xs) ys first second = (first.0, both_alike (after_action step_acts s x) xs ys first.1 second)

  pub front_alike : (s : Standing (List Step)) (xs ys : List Action) → AreAlike s (xs ++ ys) → AreAlike s xs
  front_alike s [] ys all = tt
  front_alike s (x ∷ xs) ys all = (all.0, front_alike (after_action step_acts s x) xs ys all.1)

  pub leads_alike : (s : Standing (List Step)) (xs : List Action) → AreAlike s xs →
      after_actions step_acts (longer s) xs ≡ longer (after_actions step_acts s xs)
  leads_alike s [] alike = refl
  leads_alike s (x ∷ xs) alike =
      ap (λ (t : Standing (List Step)). after_actions step_acts t xs) alike.0
      ∙ leads_alike (after_action step_acts s x) xs alike.1

  one_event : (s : Standing (List Step)) (x : Action) →
      events_of_one step_acts (longer s) x ≡ events_of_one step_acts s x
  one_event s (Does e) = refl
  one_event s (Advances core) = refl
  one_event s Lists = refl

  pub events_alike : (s : Standing (List Step)) (xs : List Action) → AreAlike s xs →
      events_of step_acts (longer s) xs ≡ events_of step_acts s xs
  events_alike s [] alike = refl
  events_alike s (x ∷ xs) alike =
      ap₂ (λ (es fs : List Event). es ++ fs) (one_event s x)
      (ap (λ (t : Standing (List Step)). events_of step_acts t xs) alike.0
      ∙ events_alike (after_action step_acts s x) xs alike.1)

  -- the actions that are made from the longer lists are those that are made from the lists, do the same, and leave so
  -- many steps
  pub record Keeps (left : ℕ → ℕ) (s : Standing (List Step)) (there here : List Action) : Type 0 where
    pub same : there ≡ here
    pub alike : AreAlike s here
    pub ready : Ready behind left (after_actions step_acts s here).programs

  abbrev pub Kept : (ℕ → ℕ) → Part (List Step) → Standing (List Step) → Type 0
  Kept left part s = Keeps left s (part (longer s)) (part s)

  nothing_kept : {left : ℕ → ℕ} (s : Standing (List Step)) → Ready behind left s.programs → Keeps left s [] []
  nothing_kept s ready = record { same = refl; alike = tt; ready = ready }

  listed : {left : ℕ → ℕ} (s : Standing (List Step)) → Ready behind left s.programs → Kept left (one Lists) s
  listed s ready = record { same = refl; alike = (refl, tt); ready = ready }

  kept_then : {middle left : ℕ → ℕ} (f g : Part (List Step)) (s : Standing (List Step)) → Kept middle f s →
      (Ready behind middle (after_actions step_acts s (f s)).programs → Kept left g (after_actions step_acts s (f s))) →
      Kept left (followed_by step_acts f g) s
  kept_then {middle} {left} f g s first then =
      let second = then first.ready in record {
        same =
            ap (λ (xs : List Action). xs ++ g (after_actions step_acts (longer s) xs)) first.same
            ∙ ap (λ (t : Standing (List Step)). f s ++ g t) (leads_alike s (f s) first.alike)
            ∙ ap (λ (xs : List Action). f s ++ xs) second.same;
        alike = both_alike s (f s) (g (after_actions step_acts s (f s))) first.alike second.alike;
        ready =
            subst (λ (t : Standing (List Step)). Ready behind left t.programs)
            (sym (after_both step_acts s (f s) (g (after_actions step_acts s (f s))))) second.ready;
      }

  kept_if : {left : ℕ → ℕ} (b : Bool) (f : Part (List Step)) (s : Standing (List Step)) →
      (b ≡ true → Kept left f s) → Ready behind left s.programs → Kept left (only_if b f) s
  kept_if true f s kept ready = kept refl
  kept_if false f s kept ready = nothing_kept s ready

  kept_each : {left : ℕ → ℕ} (part : ℕ → Part (List Step)) →
      ((n : ℕ) (s : Standing (List Step)) → Ready behind left s.programs → Kept left (part n) s) →
      (numbers : List ℕ) (s : Standing (List Step)) → Ready behind left s.programs →
      Kept left (for_each step_acts part numbers) s
  kept_each part each [] s ready = nothing_kept s ready
  kept_each part each (n ∷ numbers) s ready =
      kept_then (part n) (for_each step_acts part numbers) s (each n s ready)
      (kept_each part each numbers (after_actions step_acts s (part n s)))

  -- an event, of whose answer the programs are told
  module _ (s : Standing (List Step)) (e : Event) (tells tells_longer : Answer → List (List Step)) where
    abbrev answered : Standing (List Step)
    answered = cond s.is_out s (after_answer s tells (transition s.machine e))

    told_alike : joined (tells (transition s.machine e).0) behind ≡ tells_longer (transition s.machine e).0 →
        cond s.is_out (longer s) (after_answer (longer s) tells_longer (transition s.machine e)) ≡ longer answered
    told_alike is = elim (cases_Bool s.is_out) [
      | inl out ↦ rw out refl
      | inr more ↦ rw more (ap (λ (programs : List (List Step)). after_answer (longer s) (λ a. programs)
          (transition s.machine e)) (sym is))
    ]

    told_ready : {left : ℕ → ℕ} → Ready behind left s.programs →
        Ready behind left (tells (transition s.machine e).0) → Ready behind left answered.programs
    told_ready {left} before after =
        cond_both s.is_out s (after_answer s tells (transition s.machine e))
        (λ (t : Standing (List Step)). Ready behind left t.programs) (λ out. before) (λ more. after)

  -- an event that completes nothing
  quiet : {left : ℕ → ℕ} (s : Standing (List Step)) (e : Event) → is_completion (transition s.machine e).0 ≡ false →
      Ready behind left s.programs → Kept left (one (Does e)) s
  quiet {left} s e silent ready =
      let here = untold step_acts s.programs (transition s.machine e).0 silent in
      let there = untold step_acts (joined s.programs behind) (transition s.machine e).0 silent in record {
        same = refl;
        alike = (
          told_alike s e (programs_told step_acts s.programs) (programs_told step_acts (joined s.programs behind))
              (ap (λ (ps : List (List Step)). joined ps behind) here ∙ sym there),
          tt,
        );
        ready = told_ready s e (programs_told step_acts s.programs) (programs_told step_acts s.programs) ready
            (subst (Ready behind left) (sym here) ready);
      }

  -- what a core takes at most once
  module _ {steps left : ℕ → ℕ} (c : ℕ) (takes : TakesOne c steps left) where
    completed : (programs : List (List Step)) (a : Answer) → Concerns c a → Ready behind steps programs →
        (joined (programs_told step_acts programs a) behind ≡ programs_told step_acts (joined programs behind) a)
        × Ready behind left (programs_told step_acts programs a)
    completed programs (answer.Completed done) is ready = (
      subst (λ (k : ℕ). joined (done_in step_acts programs k done.received) behind
          ≡ done_in step_acts (joined programs behind) k done.received) (sym is)
          (done_joined programs behind c done.received ready.count (has_one behind c takes ready)),
      subst (λ (k : ℕ). Ready behind left (done_in step_acts programs k done.received)) (sym is)
          (one_taken behind c takes ready done.received),
    )
    completed programs _ is ready = (refl, none_taken behind c takes ready)

    taken : (s : Standing (List Step)) (e : Event) → Concerns c (transition s.machine e).0 →
        Ready behind steps s.programs → Kept left (one (Does e)) s
    taken s e is ready =
        let k = completed s.programs (transition s.machine e).0 is ready in record {
          same = refl;
          alike = (
            told_alike s e (programs_told step_acts s.programs)
                (programs_told step_acts (joined s.programs behind)) k.0,
            tt,
          );
          ready = told_ready s e (programs_told step_acts s.programs) (programs_told step_acts s.programs)
              (none_taken behind c takes ready) k.1;
        }

    went_on : (programs : List (List Step)) (b : Bool) → Ready behind steps programs →
        (joined (cond b (done_in step_acts programs c None) programs) behind
        ≡ cond b (done_in step_acts (joined programs behind) c None) (joined programs behind))
        × Ready behind left (cond b (done_in step_acts programs c None) programs)
    went_on programs true ready = (
      done_joined programs behind c None ready.count (has_one behind c takes ready),
      one_taken behind c takes ready None,
    )
    went_on programs false ready = (refl, none_taken behind c takes ready)

    advanced : (s : Standing (List Step)) → Ready behind steps s.programs → Kept left (one (Advances c)) s
    advanced s ready =
        let k = went_on s.programs (is_advanced (transition s.machine (event.Advance c)).0) ready in record {
          same = refl;
          alike = (
            told_alike s (event.Advance c) (told_advance step_acts s.programs c)
                (told_advance step_acts (joined s.programs behind) c) k.0,
            tt,
          );
          ready = told_ready s (event.Advance c) (told_advance step_acts s.programs c)
              (told_advance step_acts s.programs c) (none_taken behind c takes ready) k.1;
        }

    attempted : (s : Standing (List Step)) → Ready behind steps s.programs → Kept left (one (Does (event.Attempt c))) s
    attempted s ready = taken s (event.Attempt c) concerns ready
      where
        concerns : Concerns c (transition s.machine (event.Attempt c)).0
        concerns = elim (attempt_does s.machine c) [
          | inl silent ↦ concerns_none c (transition s.machine (event.Attempt c)).0 silent.0
          | inr ends ↦ subst (Concerns c) (sym ends.1) ends.2.core
        ]

  -- parts that complete nothing
  module _ {left : ℕ → ℕ} where
    copy_kept : (core : ℕ) (o : Option ℕ) (s : Standing (List Step)) → Ready behind left s.programs →
        Kept left (copy_leaves core o) s
    copy_kept core None s ready = nothing_kept s ready
    copy_kept core (Some line) s ready =
        quiet s (event.EvictCache core line)
        (not_completed s.machine (event.EvictCache core line) (cache_eviction_stays s.machine core line).records) ready

    tries_kept : (core : ℕ) (s : Standing (List Step)) → Kept left (one (Does (event.Attempt core))) s →
        Kept left (tries step_acts core) s
    tries_kept core s first =
        let again = finds_no_place s.machine core in
        kept_then (one (Does (event.Attempt core))) (only_if again (makes_place core)) s first
        (λ ready. let t = after_actions step_acts s (one (Does (event.Attempt core)) s) in
        kept_if again (makes_place core) t
        (λ full. copy_kept core (victim_for_core t.machine core (open_op t.machine core)) t ready) ready)

    delivered : (number : ℕ) (s : Standing (List Step)) → Ready behind left s.programs →
        Kept left (one (Does (event.Deliver number))) s
    delivered number s ready =
        quiet s (event.Deliver number)
        (not_completed s.machine (event.Deliver number) (delivery_stays s.machine number).records) ready

    line_kept : (fair : Bool) (number : ℕ) (o : Option (ℕ × ℕ)) (s : Standing (List Step)) →
        Ready behind left s.programs → Kept left (line_leaves step_acts fair number o) s
    line_kept fair number None s ready = nothing_kept s ready
    line_kept fair number (Some x) s ready =
        let again = fair && is_evicted (transition s.machine (event.EvictBank x.0 x.1)).0 in
        kept_then (one (Does (event.EvictBank x.0 x.1))) (only_if again (one (Does (event.Deliver number)))) s
        (quiet s (event.EvictBank x.0 x.1)
        (not_completed s.machine (event.EvictBank x.0 x.1) (bank_eviction_stays s.machine x.0 x.1).records) ready)
        (λ after. let t = after_actions step_acts s (one (Does (event.EvictBank x.0 x.1)) s) in
        kept_if again (one (Does (event.Deliver number))) t (λ is. delivered number t after) after)

    delivery_kept : (fair : Bool) (number : ℕ) (s : Standing (List Step)) → Ready behind left s.programs →
        Kept left (delivery step_acts fair number) s
    delivery_kept fair number s ready =
        let held = is_held (transition s.machine (event.Deliver number)).0 in
        kept_then (one (Does (event.Deliver number))) (only_if held (makes_room step_acts fair number)) s
        (delivered number s ready)
        (λ after. let t = after_actions step_acts s (one (Does (event.Deliver number)) s) in
        kept_if held (makes_room step_acts fair number) t
        (λ is. line_kept fair number (make_room t.machine number) t after) after)

    deliveries_kept : (fair : Bool) (s : Standing (List Step)) → Ready behind left s.programs →
        Kept left (deliveries step_acts fair) s
    deliveries_kept fair s ready =
        kept_then (one Lists) (for_each step_acts (delivery step_acts fair) (numbers_in_flight s.machine)) s
        (listed s ready) (kept_each (delivery step_acts fair) (delivery_kept fair) (numbers_in_flight s.machine) s)

  -- a core's turn takes at most one of its steps
  module _ {steps left : ℕ → ℕ} (c : ℕ) (takes : TakesOne c steps left) where
    tried_twice : (s : Standing (List Step)) → Ready behind steps s.programs → Kept left (tries_twice step_acts c) s
    tried_twice s ready = by_place (finds_no_place s.machine c) refl
      where
        by_place : (b : Bool) → finds_no_place s.machine c ≡ b → Kept left (tries_twice step_acts c) s
        by_place true is =
            kept_then (tries step_acts c) (only_if (finds_no_place s.machine c) (one (Does (event.Attempt c)))) s
            (tries_kept c s (quiet s (event.Attempt c) (no_place_completes_nothing _ is) ready))
            (λ after. let t = after_actions step_acts s (tries step_acts c s) in
            kept_if (finds_no_place s.machine c) (one (Does (event.Attempt c))) t (λ full. attempted c takes t after)
            (none_taken behind c takes after))
        by_place false is =
            kept_then (tries step_acts c) (only_if (finds_no_place s.machine c) (one (Does (event.Attempt c)))) s
            (tries_kept c s (attempted c takes s ready))
            (λ after. let t = after_actions step_acts s (tries step_acts c s) in
            kept_if (finds_no_place s.machine c) (one (Does (event.Attempt c))) t
            (λ full. absurd (true≢false (sym full ∙ is))) after)

    attempts_kept : (s : Standing (List Step)) → Ready behind steps s.programs → Kept left (attempts step_acts c) s
    attempts_kept s ready = by_open (open_op s.machine c)
      where
        by_open : (o : Option (Op × Bool)) → Kept left (attempt_of step_acts c o) s
        by_open None = nothing_kept s (none_taken behind c takes ready)
        by_open (Some x) = tried_twice s ready

    module _ (s : Standing (List Step)) (ready : Ready behind steps s.programs) where
      stepped : {now : ℕ → ℕ} (o : Option (Op × Bool)) (next : Option Step) → open_op s.machine c ≡ o →
          next_in step_acts s.programs c ≡ next → Kept now (step_of c o next) s → Kept now (steps_on step_acts c) s
      stepped o next is gives kept =
          rw (is, next_joined s.programs behind c ready.count (has_one behind c takes ready), gives) kept

      issued : (op : Op) → Kept steps (one (Does (event.Issue c op))) s
      issued op = quiet s (event.Issue c op) (not_completed s.machine (event.Issue c op) stays) ready
        where
          stays : (transition s.machine (event.Issue c op)).1.records ≡ s.machine.records
          stays = elim (issue_does s.machine c op) [
            | inl still ↦ still.records
            | inr opens ↦ opens.records
          ]

      -- after an advance nothing is open
      still_none : open_op s.machine c ≡ None → (xs : List Action) → xs ≡ Advances c ∷ [] →
          open_op (after_actions step_acts s xs).machine c ≡ None
      still_none none xs is =
          let o = transition s.machine (event.Advance c) in
          rw is (cond_both s.is_out s (after_answer s (told_advance step_acts s.programs c) o)
          (λ (t : Standing (List Step)). open_op t.machine c ≡ None) (λ out. none)
          (λ more. open_none o.1 c ((advance_stays s.machine c).ops c ∙ none_open s.machine c none)))

      rest_none : (t : Standing (List Step)) → open_op t.machine c ≡ None → Ready behind left t.programs →
          Kept left (attempts step_acts c) t
      rest_none t none after = rw none (nothing_kept t after)

      turn_by : (o : Option (Op × Bool)) (next : Option Step) → open_op s.machine c ≡ o →
          next_in step_acts s.programs c ≡ next → Kept left (core_turn step_acts c) s
      turn_by (Some x) next is gives =
          kept_then (steps_on step_acts c) (attempts step_acts c) s
          (stepped (Some x) next is gives (nothing_kept s ready)) (attempts_kept _)
      turn_by None None is gives =
          kept_then (steps_on step_acts c) (attempts step_acts c) s
          (stepped None None is gives (nothing_kept s ready)) (attempts_kept _)
      turn_by None (Some (step.Op op)) is gives =
          kept_then (steps_on step_acts c) (attempts step_acts c) s
          (stepped None (Some (step.Op op)) is gives (issued op)) (attempts_kept _)
      turn_by None (Some step.Advance) is gives =
          kept_then (steps_on step_acts c) (attempts step_acts c) s
          (stepped None (Some step.Advance) is gives (advanced c takes s ready))
          (rest_none _ (still_none is (steps_on step_acts c s) (rw (is, gives) refl)))

    pub turn_kept : (s : Standing (List Step)) → Ready behind steps s.programs → Kept left (core_turn step_acts c) s
    turn_kept s ready = turn_by s ready (open_op s.machine c) (next_in step_acts s.programs c) refl refl

  -- the steps that are left before a core's turn: each core below it has taken one
  abbrev before : ℕ → ℕ → ℕ → ℕ
  before k zero core = suc k
  before k (suc c) zero = k
  before k (suc c) (suc core) = before k c core

  takes_here : (k c : ℕ) → before k (suc c) c < before k c c
  takes_here k zero = omega arith
  takes_here k (suc c) = takes_here k c

  takes_there : (k c core : ℕ) → core ≢ c → before k (suc c) core ≤ before k c core
  takes_there k zero zero other = absurd (other refl)
  takes_there k zero (suc core) other = omega arith
  takes_there k (suc c) zero other = omega arith
  takes_there k (suc c) (suc core) other = takes_there k c core (λ e. other (ap suc e))

  enough : (k c core : ℕ) → k ≤ before k c core
  enough k zero core = omega arith
  enough k (suc c) zero = omega arith
  enough k (suc c) (suc core) = enough k c core

  takes_one : (k c : ℕ) → TakesOne c (before k c) (before k (suc c))
  takes_one k c = record { here = takes_here k c; there = takes_there k c }

  turns_kept : (k count c : ℕ) (s : Standing (List Step)) → Ready behind (before k c) s.programs →
      Kept (λ core. k) (for_each step_acts (core_turn step_acts) (rising count c)) s
  turns_kept k zero c s ready = nothing_kept s (ready_for_less behind (enough k c) ready)
  turns_kept k (suc count) c s ready =
      let next : suc c ≡ c + 1 = omega arith in
      kept_then (core_turn step_acts c) (for_each step_acts (core_turn step_acts) (rising count (c + 1))) s
      (turn_kept c (takes_one k c) s ready)
      (λ after. turns_kept k count (c + 1) (after_actions step_acts s (core_turn step_acts c s))
      (subst (λ (n : ℕ). Ready behind (before k n)
      (after_actions step_acts s (core_turn step_acts c s)).programs) next after))

  pub round_kept : (round : Round) (k : ℕ) (s : Standing (List Step)) → Ready behind (λ core. suc k) s.programs →
      Kept (λ core. k) (round_of step_acts round) s
  round_kept round k s ready =
      kept_then (core_turns step_acts round.cores) (deliveries step_acts round.is_fair) s
      (turns_kept k round.cores 0 s ready)
      (deliveries_kept round.is_fair (after_actions step_acts s (core_turns step_acts round.cores s)))

  -- a drawn turn takes at most one step
  module _ (k : ℕ) (s : Standing (List Step)) (ready : Ready behind (λ core. suc k) s.programs) where
    any_one : (c : ℕ) → TakesOne c (λ core. suc k) (λ core. k)
    any_one c = record { here = omega arith; there = λ core other. omega arith }

    any_event : (e : Event) → Kept (λ core. k) (one (Does e)) s
    any_event e =
        let of = concerns_one (transition s.machine e).0 in taken of.0 (any_one of.0) s e of.1 ready

    less : Ready behind (λ core. k) s.programs
    less = ready_for_less behind (λ core. omega arith) ready

    choice_kept : (choice : Choice) → Kept (λ core. k) (chosen step_acts choice) s
    choice_kept (Makes (Does e)) = any_event e
    choice_kept (Makes (Advances core)) = advanced core (any_one core) s ready
    choice_kept (Makes Lists) = listed s less
    choice_kept (Evicts e) = kept_then (one Lists) (one (Does e)) s (listed s ready) (λ same. any_event e)
    choice_kept (Tries core) = tries_kept core s (attempted core (any_one core) s ready)
    choice_kept (Delivers number) = delivery_kept false number s less
    choice_kept Nothing = nothing_kept s less

    same_steps : (core : ℕ) → next_in step_acts (joined s.programs behind) core ≡ next_in step_acts s.programs core
    same_steps core = next_joined s.programs behind core ready.count (has_one behind core (any_one core) ready)

    same_list : (n : ℕ) →
        drawn_list step_acts s.machine (joined s.programs behind) n ≡ drawn_list step_acts s.machine s.programs n
    same_list zero = refl
    same_list (suc zero) = refl
    same_list (suc (suc zero)) = refl
    same_list (suc (suc (suc n))) =
        let next : next_in step_acts (joined s.programs behind) ≡ next_in step_acts s.programs =
        λ i core. same_steps core i in
        ap (λ (f : ℕ → Option Step). flat_map (λ core. core_step core (open_op s.machine core) (f core))
        (range_with_len 0 s.machine.config.cores)
        ++ map (λ number. Delivers number) (numbers_in_flight s.machine)) next

    pub drawn_kept : (a b : ℕ) → Kept (λ core. k) (drawn step_acts a b) s
    drawn_kept a b =
        rw (same_list (a % 16)) (choice_kept (choice_at (drawn_list step_acts s.machine s.programs (a % 16)) b))
