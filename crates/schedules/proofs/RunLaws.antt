-- Laws of runs: the events make the machine, all done means that nothing is left to do, and a run leaves no choice.
use Rattle.std.proofs.Common.{◌≡◌, ◌≢◌, ◌⊎◌, inl, inr, ℕ, zero, suc, ◌<◌, Bool, true, false, ◌&&◌, not, is_none, List}
use Rattle.std.proofs.Common.{[], ◌∷◌, ◌++◌, Option, Some, None, refl, sym, ap, ◌∙◌, subst, append-nil}
use Rattle.std.proofs.lemmas.Bool.{and_parts, cases_Bool, cond_both, false≢true}
use Rattle.machine_table.specs.declared.event.Event.{Event}
use Rattle.machine_table.specs.Machine.{Machine, open_op}
use Rattle.machine_table.specs.Transition.{transition}
use Rattle.machine_table.specs.Runs.{after_all}
use Rattle.programs.specs.declared.ends.End.{End}
use Rattle.programs.specs.declared.ends.End.TheVariants.{AllDone, Stalled, TurnsUsed, Exhausted, NoMemory}
use Rattle.programs.specs.Acts.{Acts, next_in}
use Rattle.schedules.specs.declared.policy.Policy.{Policy}
use Rattle.schedules.specs.declared.policy.Policy.TheVariants.{Rounds, FairRounds, Seed}
use Rattle.schedules.specs.Parts.{Action, Does, Advances, Lists, Standing, after_action, after_actions}
use Rattle.schedules.specs.Parts.{events_of_one, events_of}
use Rattle.schedules.specs.Policies.{EndsBy}
use Rattle.schedules.specs.RoundSchedule.{Round, round_of, rounds, AreRounds, ArePartOfRounds, none, more}
use Rattle.schedules.specs.Runs.{Plan, Position, begin, turn_at, end_of_turn, one_more, run, HasRun, IsCut, Ended}
use Rattle.schedules.specs.Runs.{are_over, end_here, initial_position, opened, plan_of}
use Rattle.schedules.proofs.Over.{each_over}

pub all_both : (m : Machine) (xs ys : List Event) → after_all m (xs ++ ys) ≡ after_all (after_all m xs) ys
all_both m [] ys = refl
all_both m (x ∷ xs) ys = all_both (transition m x).1 xs ys

module _ {P : Type 0} (acts : Acts P) where
  pub one_makes : (s : Standing P) (action : Action) →
      after_all s.machine (events_of_one acts s action) ≡ (after_action acts s action).machine
  one_makes s (Does e) = elim (cases_Bool s.is_out) [
    | inl out ↦ rw out refl
    | inr out ↦ rw out refl
  ]
  one_makes s (Advances core) = elim (cases_Bool s.is_out) [
    | inl out ↦ rw out refl
    | inr out ↦ rw out refl
  ]
  one_makes s Lists = refl

  actions_make : (s : Standing P) (actions : List Action) →
      after_all s.machine (events_of acts s actions) ≡ (after_actions acts s actions).machine
  actions_make s [] = refl
  actions_make s (action ∷ actions) =
      all_both s.machine (events_of_one acts s action) (events_of acts (after_action acts s action) actions)
      ∙ ap (λ (m : Machine). after_all m (events_of acts (after_action acts s action) actions)) (one_makes s action)
      ∙ actions_make (after_action acts s action) actions

module _ {P S : Type 0} (plan : Plan P S) (start : Position P S) where
  -- what is so at the start and after each part of a turn, is so at the end
  module _ (K : Standing P → List Event → Type 0) (first : K start.standing start.events)
      (turns : (own : S) (s : Standing P) (events : List Event) (made left : List Action) → K s events →
      plan.schedule.turn own (begin s) ≡ made ++ left →
      K (after_actions plan.acts (begin s) made) (events ++ events_of plan.acts (begin s) made)) where
    more_kept : (e : End) (p : Position P S) → K p.standing p.events →
        K (one_more plan e p).standing (one_more plan e p).events
    more_kept TurnsUsed p so =
        turns p.own p.standing p.events (turn_at plan p) [] so (sym (append-nil (turn_at plan p)))
    more_kept _ p so = so

    run_kept : (n : ℕ) → K (run plan n start).standing (run plan n start).events
    unfolding run
    run_kept zero = first
    run_kept (suc n) = more_kept (run plan n start).end (run plan n start) (run_kept n)

    pub all_kept : {keeps : Bool} {events : List Event} {m : Machine} {programs : List P} {e : End} →
        (ended : Ended keeps plan start events m programs e) → K ended.last events
    all_kept {keeps} {events} {m} {programs} {e} ended = by_end ended.ends
      where
        by_end : HasRun (run plan plan.limit start) events ended.last e
            ⊎ IsCut keeps plan start events ended.last e → K ended.last events
        by_end (inl h) = rw (h.standing_is, h.events_are) at (run_kept plan.limit)
        by_end (inr cut) =
            let p = run plan cut.turns start in
            rw (cut.leads, ← cut.events_are) at
            (turns p.own p.standing p.events cut.made cut.left (run_kept cut.turns) cut.turn_is)

  -- a part of a turn makes its machine of the start's
  pub turn_makes : (s : Standing P) (events : List Event) (made : List Action) →
      s.machine ≡ after_all start.standing.machine events → (after_actions plan.acts (begin s) made).machine ≡
      after_all start.standing.machine (events ++ events_of plan.acts (begin s) made)
  turn_makes s events made so =
      sym (all_both start.standing.machine events (events_of plan.acts (begin s) made)
      ∙ ap (λ (m : Machine). after_all m (events_of plan.acts (begin s) made)) (sym so)
      ∙ actions_make plan.acts (begin s) made)

  pub run_makes : {keeps : Bool} {events : List Event} {m : Machine} {programs : List P} {e : End} → start.events ≡ [] →
      Ended keeps plan start events m programs e → m ≡ after_all start.standing.machine events
  run_makes {keeps} {events} opens ended =
      sym ended.machine_is
      ∙ all_kept (λ s events. s.machine ≡ after_all start.standing.machine events) (rw opens refl)
      (λ own s events made left so is. turn_makes s events made so) ended

  -- all done is said of a run that left nothing to do, and that turns are used of one that left something
  abbrev pub Says : End → Standing P → Type 0
  Says AllDone s = are_over plan.acts s.machine s.programs s.machine.config.cores ≡ true
  Says TurnsUsed s = are_over plan.acts s.machine s.programs s.machine.config.cores ≡ false
  Says e s = Unit {0}

  pub here_says : (s : Standing P) → Says (end_here plan.acts s.machine s.programs) s
  here_says s = cond_both (are_over plan.acts s.machine s.programs s.machine.config.cores) AllDone TurnsUsed
      (λ e. Says e s) (λ e. e) (λ e. e)

  turn_says : (s : Standing P) → Says (end_of_turn plan s) s
  turn_says s = cond_both s.is_out Exhausted _ (λ e. Says e s) (λ _. tt) (λ _.
      cond_both (plan.schedule.stalls && not s.has_progressed) Stalled _ (λ e. Says e s) (λ _. tt) (λ _. here_says s))

  more_says : (e : End) (p : Position P S) → Says p.end p.standing →
      Says (one_more plan e p).end (one_more plan e p).standing
  more_says TurnsUsed p says = turn_says (after_actions plan.acts (begin p.standing) (turn_at plan p))
  more_says _ p says = says

  pub run_says : Says start.end start.standing → (n : ℕ) → Says (run plan n start).end (run plan n start).standing
  unfolding run
  run_says first zero = first
  run_says first (suc n) = more_says (run plan n start).end (run plan n start) (run_says first n)

none_of : {A : Type 0} (o : Option A) → is_none o ≡ true → o ≡ None
none_of None is = refl
none_of (Some x) is = absurd (false≢true is)

-- a run that its last turn ended
pub not_cut : {P S : Type 0} {keeps : Bool} {plan : Plan P S} {start : Position P S} {events : List Event} {m : Machine}
    {programs : List P} {e : End} (ended : Ended keeps plan start events m programs e) → e ≢ NoMemory →
    HasRun (run plan plan.limit start) events ended.last e
not_cut ended other = elim ended.ends [
  | inl h ↦ h
  | inr cut ↦ absurd (other cut.end_is)
]

module _ {P S : Type 0} (plan : Plan P S) (m : Machine) (opening : List P) (own : S) where
  -- all done means that no core has an open operation and no program a next step
  pub run_leaves_nothing : {keeps : Bool} {events : List Event} {after : Machine} {programs : List P} {e : End} →
      Ended keeps plan (initial_position plan.acts m opening own) events after programs e → e ≡ AllDone → (core : ℕ) →
      core < after.config.cores → (open_op after core ≡ None) × (next_in plan.acts programs core ≡ None)
  run_leaves_nothing {keeps} {events} {after} {programs} {e} ended done core below =
      rw (ended.machine_is, ended.programs_are) at nothing_left
    where
      start : Position P S
      start = initial_position plan.acts m opening own

      over : are_over plan.acts ended.last.machine ended.last.programs ended.last.machine.config.cores ≡ true
      over = let h = not_cut ended (λ bad. let z = sym done ∙ bad in absurd cc) in
          rw (h.standing_is, h.end_is, done) at (run_says plan start (here_says plan start start.standing) plan.limit)

      nothing_left : (open_op ended.last.machine core ≡ None) × (next_in plan.acts ended.last.programs core ≡ None)
      nothing_left =
          let parts = and_parts (is_none (open_op ended.last.machine core))
          (is_none (next_in plan.acts ended.last.programs core))
          (each_over plan.acts ended.last.machine ended.last.programs ended.last.machine.config.cores core
          (rw ended.machine_is below) over) in (
            none_of (open_op ended.last.machine core) parts.0,
            none_of (next_in plan.acts ended.last.programs core) parts.1,
          )

-- a run leaves no choice, whether its events are kept or not
same_run : {P S : Type 0} {keeps also : Bool} (plan : Plan P S) (start : Position P S) (events others : List Event)
    (m n : Machine) (programs told : List P) (e last : End) → Ended keeps plan start events m programs e →
    Ended also plan start others n told last → e ≢ NoMemory → last ≢ NoMemory →
    (events ≡ others) × (m ≡ n) × (programs ≡ told) × (e ≡ last)
same_run {P} plan start events others m n programs told e last first second had too =
    let a = not_cut first had in
    let b = not_cut second too in
    let same : first.last ≡ second.last = sym a.standing_is ∙ b.standing_is in (
      sym a.events_are ∙ b.events_are,
      sym first.machine_is ∙ ap (λ (s : Standing P). s.machine) same ∙ second.machine_is,
      sym first.programs_are ∙ ap (λ (s : Standing P). s.programs) same ∙ second.programs_are,
      sym a.end_is ∙ b.end_is,
    )

-- so it is of every policy
pub same_list : {P : Type 0} (acts : Acts P) (keeps also : Bool) (policy : Policy) (limit : ℕ) (start : Machine)
    (opening : List P) (events others : List Event) (m n : Machine) (programs told : List P) (e last : End) →
    EndsBy keeps acts policy limit start opening events m programs e →
    EndsBy also acts policy limit start opening others n told last →
    e ≢ NoMemory → last ≢ NoMemory → (events ≡ others) × (m ≡ n) × (programs ≡ told) × (e ≡ last)
same_list acts keeps also Rounds limit start opening events others m n programs told e last =
    same_run _ _ events others m n programs told e last
same_list acts keeps also FairRounds limit start opening events others m n programs told e last =
    same_run _ _ events others m n programs told e last
same_list acts keeps also (Seed seed) limit start opening events others m n programs told e last =
    same_run _ _ events others m n programs told e last

-- a run by rounds makes rounds
module _ {P : Type 0} (acts : Acts P) (limit : ℕ) (round : Round) (m : Machine) (opening : List P) where
  abbrev plan : Plan P Round
  plan = plan_of acts (rounds acts) limit

  abbrev start : Position P Round
  start = initial_position acts m opening round

  pub record Stands (p : Position P Round) : Type 0 where
    pub own_is : p.own ≡ round
    pub rounds_are : AreRounds acts round (opened m opening) p.events p.standing

  more_stands : (e : End) (p : Position P Round) → Stands p → Stands (one_more plan e p)
  more_stands TurnsUsed p so = record {
    own_is = so.own_is;
    rounds_are = subst (λ (r : Round). AreRounds acts round (opened m opening)
        (p.events ++ events_of acts (begin p.standing) (round_of acts r (begin p.standing)))
        (after_actions acts (begin p.standing) (round_of acts r (begin p.standing)))) (sym so.own_is)
        (more so.rounds_are);
  }
  more_stands _ p so = so

  pub run_stands : (n : ℕ) → Stands (run plan n start)
  unfolding run
  run_stands zero = record { own_is = refl; rounds_are = none }
  run_stands (suc n) = more_stands (run plan n start).end (run plan n start) (run_stands n)

  module _ (keeps : Bool) (events : List Event) (after : Machine) (programs : List P) (e : End)
      (ended : Ended keeps plan start events after programs e) where
    by_run : HasRun (run plan limit start) events ended.last e →
        AreRounds acts round (opened m opening) events ended.last
    by_run h = rw (h.standing_is, h.events_are) at (run_stands limit).rounds_are

    pub whole_rounds : e ≢ NoMemory → (last : Standing P) × (last.machine ≡ after) × (last.programs ≡ programs)
        × AreRounds acts round (opened m opening) events last
    whole_rounds had = (ended.last, ended.machine_is, ended.programs_are, by_run (not_cut ended had))

    pub part_of_rounds : ArePartOfRounds acts round (opened m opening) events
    part_of_rounds = by_end ended.ends
      where
        by_end : HasRun (run plan limit start) events ended.last e ⊎ IsCut keeps plan start events ended.last e →
            ArePartOfRounds acts round (opened m opening) events
        by_end (inl h) = record {
          before = events;
          begun = ended.last;
          rounds_are = by_run h;
          made = [];
          left = round_of acts round (begin ended.last);
          events_are = sym (append-nil events);
          round_is = refl;
        }
        by_end (inr cut) =
            let so = run_stands cut.turns in record {
              before = (run plan cut.turns start).events;
              begun = (run plan cut.turns start).standing;
              rounds_are = so.rounds_are;
              made = cut.made;
              left = cut.left;
              events_are = cut.events_are;
              round_is = ap (λ (r : Round). round_of acts r (begin (run plan cut.turns start).standing)) (sym so.own_is)
                  ∙ cut.turn_is;
            }
