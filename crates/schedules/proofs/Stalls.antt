-- A run by rounds that stalls has a full network, or no number for a message, or nothing that may be issued.
use Rattle.std.proofs.Common.{◌≡◌, ◌≢◌, ℕ, zero, suc, ◌+◌, ◌-◌, ◌/◌, ◌^◌, ◌<◌, ◌≤◌, ◌&&◌, Bool, true, false, not, List}
use Rattle.std.proofs.Common.{[], ◌∷◌, ◌++◌, length, map, Option, Some, None, Result, Ok, Err, inl, inr, refl, sym, ap}
use Rattle.std.proofs.Common.{◌∙◌, subst, arith, cond, nat_lt, eqb, get_or}
use Rattle.std.specs.List.{slice_get}
use Rattle.std.specs.Ordering.{nat_cmp}
use Rattle.std.specs.FinMap.{FinMap}
use Rattle.std.specs.Prelude.{option_map}
use Rattle.std.proofs.lemmas.Bool.{cases_Bool, cases_eq, cases_lt, cond_both, cond-true, cond-false, eqb-true}
use Rattle.std.proofs.lemmas.Option.{slice_get_within, slice_get-get_or}
use Rattle.physiological_order.specs.declared.operation.Op.{Op}
use Rattle.physiological_order.specs.Order.{address}
use Rattle.network.specs.declared.message.Body.{Body}
use Rattle.network.specs.declared.message.Body.TheVariants as body
use Rattle.network.specs.declared.message.Message.{Message}
use Rattle.network.specs.NumberedMessages.{at_number}
use Rattle.timestamp_manager.specs.Lease.{fits}
use Rattle.core_pts.specs.declared.attempt.IssueError.{IssueError}
use Rattle.core_pts.specs.declared.attempt.IssueError.TheVariants as not_issued
use Rattle.core_pts.specs.CoreTable as core_table
use Rattle.core_pts.specs.CoreTable.{CoreState}
use Rattle.machine_table.specs.declared.config.Config.{Config}
use Rattle.machine_table.specs.declared.event.Answer.{Answer}
use Rattle.machine_table.specs.declared.event.Answer.TheVariants as answer
use Rattle.machine_table.specs.declared.event.Event.{Event}
use Rattle.machine_table.specs.declared.event.Event.TheVariants as event
use Rattle.machine_table.specs.declared.event.Refusal.TheVariants as refusal
use Rattle.machine_table.specs.Answered.{Answered}
use Rattle.machine_table.specs.Machine.{Machine, open_op, open_op_of, operation_of, with_core}
use Rattle.machine_table.specs.Opening.{at_start, open_core}
use Rattle.machine_table.specs.Runs.{after_all}
use Rattle.machine_table.specs.SetUp.{is_good}
use Rattle.machine_table.specs.Step as step_of_part
use Rattle.machine_table.specs.Transition.{changed, issued, on_event, transition}
use Rattle.machine_table.proofs.Lemmas.{every_answer, finds}
use Rattle.machine_theorem.specs.Rounds.{IsMoving, IsRequest, IsInRound, attempts, copy_leaves, delivers, line_leaves}
use Rattle.machine_theorem.specs.Rounds.{MovesOn}
use Rattle.machine_theorem.proofs.Lemmas.{after_all_same, at_start_invariant, fair as fair_set_up, moves_after}
use Rattle.interleaving_core.specs.LookUps.{is_request, room_at, room_for_message, room_in, victim_for_core, victim_of}
use Rattle.programs.specs.declared.ends.End.{End}
use Rattle.programs.specs.declared.ends.End.TheVariants.{AllDone, Stalled, TurnsUsed, Exhausted}
use Rattle.programs.specs.declared.steps.Step.{Step}
use Rattle.programs.specs.declared.steps.Step.TheVariants as step
use Rattle.programs.specs.Acts.{Acts, next_in}
use Rattle.schedules.specs.Parts as parts
use Rattle.schedules.specs.Parts.{Action, Does, Advances, Lists, Standing, Part, after_action, after_actions}
use Rattle.schedules.specs.Parts.{after_answer, programs_told, told_advance, followed_by, one, only_if, makes_place}
use Rattle.schedules.specs.Parts.{finds_no_place, tries, makes_room, delivery, is_held, is_no_room, is_progress}
use Rattle.schedules.specs.Parts.{is_times_end}
use Rattle.schedules.specs.RoundSchedule.{Round, no_round, rising, numbers_in_flight, step_action, step_of, steps_on}
use Rattle.schedules.specs.RoundSchedule.{attempt_of, attempts as attempts_on, core_turn, core_turns, deliveries}
use Rattle.schedules.specs.RoundSchedule.{round_of, rounds}
use Rattle.schedules.specs.Runs.{Plan, Position, begin, run, one_more, after_turn, end_of_turn, end_here, Ended}
use Rattle.schedules.specs.Runs.{initial_position, is_over, are_over, plan_of}
use Rattle.schedules.specs.Stalls.{IsAmong, StallsSince, full, unnumbered, too_many}
use Rattle.schedules.proofs.Over.{one_not_over}
use Rattle.schedules.proofs.RunLaws.{not_cut, run_makes, all_both, run_stands, all_kept, Says, here_says, run_says}
use Rattle.schedules.proofs.StillRounds.{IsCalm, IsStill, AreStill, GoesOn, AreOf, all_still, still_leaves}
use Rattle.schedules.proofs.StillRounds.{went, all_of, both_have, each_has}

calm_stays : (a : Answer) → IsCalm a → IsMoving a → ⊥
calm_stays answer.Waiting calm moving = moving
calm_stays answer.Held calm moving = moving
calm_stays (answer.Refused refusal.Exhausted) calm moving = absurd (let z : true ≡ false = calm.in_time in cc)
calm_stays (answer.Refused _) calm moving = moving
calm_stays _ calm moving = absurd (let z : true ≡ false = calm.quiet in cc)

among_rising : (count first n : ℕ) → first ≤ n → n < first + count → IsAmong n (rising count first)
among_rising zero first n from below = absurd (omega (arith, from, below))
among_rising (suc count) first n from below = elim (cases_eq n first) [
  | inl e ↦ inl e
  | inr other ↦ inr (among_rising count (first + 1) n (omega (arith, from, other)) (omega (arith, below)))
]

among_flight : (n : ℕ) (x : Message) (ms : List (ℕ × Message)) → at_number n ms ≡ Some x →
    IsAmong n (map (λ message. message.0) ms)
among_flight n x [] at = absurd (cc)
among_flight n x (y ∷ ys) at = elim (cases_Bool (eqb y.0 n)) [
  | inl here ↦ inl (sym (eqb-true y.0 n here))
  | inr other ↦ inr (among_flight n x ys (sym (cond-false (eqb y.0 n) (Some y.1) (at_number n ys) other) ∙ at))
]

-- a round that goes on without progress, at one machine
module _ {P : Type 0} (acts : Acts P) (round : Round) (s : Standing P) (so : GoesOn s)
    (cores : length s.machine.cores ≡ round.cores) (still : AreStill s.machine (round_of acts round s)) where
  abbrev m : Machine
  m = s.machine

  abbrev made : List Action
  made = round_of acts round s

  abbrev AreHere : List Action → Type 0
  AreHere actions = AreOf acts s so made actions

  abbrev Holds : Part P → Type 0
  Holds part = AreHere (part s)

  parted : (f g : Part P) → Holds (followed_by acts f g) → Holds f × Holds g
  parted f g has = both_have acts s so made f g has

  halves : Holds (core_turns acts round.cores) × Holds (deliveries acts round.is_fair)
  halves = parted (core_turns acts round.cores) (deliveries acts round.is_fair)
      (all_of acts s so made made still (λ action is. is))

  turn_has : (core : ℕ) → core < round.cores → Holds (steps_on acts core) × Holds (attempts_on acts core)
  turn_has core below =
      parted (steps_on acts core) (attempts_on acts core)
      (each_has acts s so made (core_turn acts) (rising round.cores 0) halves.0 core
      (among_rising round.cores 0 core (omega arith) (omega (arith, below))))

  -- the attempts at an open operation
  attempt_has : (core : ℕ) (state : CoreState) (op : Op) → slice_get m.cores core ≡ Some state →
      state.open_op ≡ Some op → Holds (tries acts core)
  attempt_has core state op at opens =
      let below : core < round.cores = (let z = slice_get_within m.cores core state at in omega (arith, z, cores)) in
      let opened : open_op m core ≡ Some (op, state.is_out) =
      ap open_op_of at ∙ ap (option_map (λ p. (p, state.is_out))) opens in
      (parted (tries acts core) (only_if (finds_no_place m core) (one (Does (event.Attempt core))))
      (subst (λ o. AreHere (attempt_of acts core o s)) opened (turn_has core below).1)).0

  -- the delivery of a message in flight, with what follows
  delivery_has : (n : ℕ) (x : Message) → at_number n m.mail.messages ≡ Some x →
      Holds (one (Does (event.Deliver n))) × Holds (only_if (is_held (transition m (event.Deliver n)).0)
      (makes_room acts round.is_fair n))
  delivery_has n x at =
      parted (one (Does (event.Deliver n))) (only_if (is_held (transition m (event.Deliver n)).0)
      (makes_room acts round.is_fair n))
      (each_has acts s so made (delivery acts round.is_fair) (numbers_in_flight m) halves.1.1 n
      (among_flight n x m.mail.messages at))

  if_holds : (b : Bool) (part : Part P) → b ≡ true → Holds (only_if b part) → Holds part
  if_holds b part holds has = subst (λ (c : Bool). AreHere (only_if c part s)) holds has

  requested : (b : Body) → IsRequest b → is_request b ≡ true
  requested (body.ShReq pts version) is = refl
  requested (body.ExReq version) is = refl
  requested _ is = absurd is

  -- each event that a round would make is one that this one made, and doesn't move
  pub was_made : (e : Event) → IsInRound m e → IsCalm (transition m e).0 × IsAmong (Does e) made
  was_made _ (attempts core state op at opens) = (attempt_has core state op at opens).0
  was_made _ (copy_leaves core line state op at opens no_place victim) =
      (subst (λ o. AreHere (parts.copy_leaves core o s))
      (ap (victim_for_core m core) (ap open_op_of at ∙ ap (option_map (λ p. (p, state.is_out))) opens)
      ∙ ap (victim_of (address op / m.config.line_words)) at ∙ victim)
      (if_holds (finds_no_place m core) (makes_place core) (ap is_no_room no_place)
      (parted (one (Does (event.Attempt core)))
      (only_if (finds_no_place m core) (makes_place core)) (attempt_has core state op at opens)).1)).0
  was_made _ (delivers n x at) = (delivery_has n x at).0.0
  was_made _ (line_leaves n bank line x state at to is there held room) =
      (subst (λ o. AreHere (parts.line_leaves acts round.is_fair n o s))
      (ap (room_for_message m) at ∙ cond-true (is_request x.body) (room_at m x.line x.to) None (requested x.body is)
      ∙ ap (room_at m x.line) to ∙ ap (room_in bank x.line) there ∙ ap (option_map (λ v. (bank, v))) room)
      (if_holds (is_held (transition m (event.Deliver n)).0) (makes_room acts round.is_fair n) (ap is_held held)
      (delivery_has n x at).1)).0

  -- and it isn't so that something does
  pub none_moves : MovesOn m → ⊥
  none_moves x = calm_stays (transition m x.event).0 (was_made x.event x.in_round).0 x.moving

  -- a program's next step is refused
  pub step_still : (core : ℕ) → core < round.cores → (next : Step) → open_op m core ≡ None →
      next_in acts s.programs core ≡ Some next → IsStill m (step_action core next)
  step_still core below next free is =
      (subst (λ o. AreHere (step_of core None o s)) is
      (subst (λ o. AreHere (step_of core o (next_in acts s.programs core) s)) free (turn_has core below).0)).0.0

-- a round that goes on without progress made each event that a round would make, and left all as it was
pub round_tried : {P : Type 0} (acts : Acts P) (round : Round) (s : Standing P) →
    length s.machine.cores ≡ round.cores → GoesOn (after_actions acts s (round_of acts round s)) →
    (after_actions acts s (round_of acts round s) ≡ s) × ((e : Event) → IsInRound s.machine e →
    IsAmong (Does e) (round_of acts round s) × (is_progress (transition s.machine e).0 ≡ false))
round_tried acts round s cores goes_on =
    let so = went acts s (round_of acts round s) goes_on in
    let still = all_still acts s (round_of acts round s) goes_on in (
      still_leaves acts s so (round_of acts round s) still,
      λ e is. let k = was_made acts round s so cores still e is in (k.1, k.0.quiet),
    )

-- a machine runs while times aren't exhausted
stays_running : (m : Machine) (a : Answer) (after : Machine) → Answered m a after → is_times_end a ≡ false →
    m.is_stopped ≡ false → after.is_stopped ≡ false
stays_running m (answer.Refused refusal.Exhausted) after says in_time running = absurd (cc)
stays_running m (answer.Refused refusal.NoMemory) after says in_time running = absurd says
stays_running m (answer.Refused _) after says in_time running = ap (λ (n : Machine). n.is_stopped) says ∙ running
stays_running m (answer.Completed done) after says in_time running = says.runs ∙ running
stays_running m answer.Waiting after says in_time running = ap (λ (n : Machine). n.is_stopped) says ∙ running
stays_running m answer.Idle after says in_time running = ap (λ (n : Machine). n.is_stopped) says ∙ running
stays_running m answer.Held after says in_time running = ap (λ (n : Machine). n.is_stopped) says ∙ running
stays_running m _ after says in_time running = says.runs ∙ running

module _ {P : Type 0} (acts : Acts P) where
  abbrev Runs : Standing P → Type 0
  Runs s = s.is_out ≡ false → s.machine.is_stopped ≡ false

  event_runs : (s : Standing P) (e : Event) (tells : Answer → List P) → Runs s →
      Runs (cond s.is_out s (after_answer s tells (transition s.machine e)))
  event_runs s e tells runs = cond_both s.is_out s (after_answer s tells (transition s.machine e)) Runs (λ out. runs)
      (λ more in_time. stays_running s.machine (transition s.machine e).0 (transition s.machine e).1
      (every_answer s.machine e) in_time (runs more))

  action_runs : (s : Standing P) (action : Action) → Runs s → Runs (after_action acts s action)
  action_runs s (Does e) runs = event_runs s e (programs_told acts s.programs) runs
  action_runs s (Advances core) runs = event_runs s (event.Advance core) (told_advance acts s.programs core) runs
  action_runs s Lists runs = runs

  actions_run : (s : Standing P) (actions : List Action) → Runs s → Runs (after_actions acts s actions)
  actions_run s [] runs = runs
  actions_run s (x ∷ xs) runs = actions_run (after_action acts s x) xs (action_runs s x runs)

-- a core that runs, without an open operation
module _ (m : Machine) (running : m.is_stopped ≡ false) (core : ℕ) (state : CoreState)
    (at : slice_get m.cores core ≡ Some state) (free : state.open_op ≡ None) where
  happens : (e : Event) → transition m e ≡ on_event m e
  happens e = cond-false m.is_stopped _ (on_event m e) running

  -- an issue is refused only so
  issue_refused : (op : Op) → IsCalm (transition m (event.Issue core op)).0 →
      (transition m (event.Issue core op)).0 ≡ answer.Refused refusal.TooMany
  issue_refused op calm =
      ap (λ (o : Answer × Machine). o.0) is
      ∙ by_count (nat_lt state.issued (2 ^ 32 - 1)) (subst (λ (o : Answer × Machine). IsCalm o.0) is calm)
    where
      is : transition m (event.Issue core op) ≡ issued m core op (core_table.issue_to state op None)
      is = happens (event.Issue core op) ∙ finds m (λ x. issued m core op (core_table.issue x op)) at
          ∙ ap (λ (o : Option Op). issued m core op (core_table.issue_to state op o)) free

      by_count : (b : Bool) →
          let r = cond {A = Result (Unit {0}) IssueError × CoreState} b
          (Ok tt, record state { open_op = Some op; issued = state.issued + 1 })
          (Err not_issued.TooMany, state) in
          IsCalm (issued m core op r).0 → (issued m core op r).0 ≡ answer.Refused refusal.TooMany
      by_count true calm = absurd (let z : true ≡ false = calm.quiet in cc)
      by_count false calm = refl

  -- an advance goes on, or times are exhausted
  advance_moves : IsCalm (transition m (event.Advance core)).0 → ⊥
  advance_moves calm = by_time (fits (state.pts + 1)) (subst (λ (o : Answer × Machine). IsCalm o.0)
      (happens (event.Advance core)
      ∙ finds m (λ x. changed m (with_core m core) None (step_of_part.advanced (core_table.advance x))) at) calm)
    where
      by_time : (b : Bool) → IsCalm (changed m (with_core m core) None (step_of_part.advanced
          (cond b (Some tt, record state { pts = state.pts + 1 }) (None, state)))).0 → ⊥
      by_time true calm = absurd (let z : true ≡ false = calm.quiet in cc)
      by_time false calm = absurd (let z : true ≡ false = calm.in_time in cc)

-- a run from a machine that events made of one that opened
module _ {P : Type 0} (acts : Acts P) (config : Config) (good : is_good config ≡ true) (memory : FinMap nat_cmp ℕ)
    (earlier : List Event) (fair : Bool) (limit : ℕ) (opening : List P) where
  abbrev start : Machine
  start = after_all (at_start config memory) earlier

  abbrev round : Round
  round = no_round fair start.config.cores

  abbrev plan : Plan P Round
  plan = plan_of acts (rounds acts) limit

  abbrev first : Position P Round
  first = initial_position acts start opening round

  -- the last round left all as it was, and a core had something left to do
  pub record Stood (s : Standing P) : Type 0 where
    pub goes_on : GoesOn s
    pub still : AreStill s.machine (round_of acts round s)
    pub work : are_over acts s.machine s.programs s.machine.config.cores ≡ false

  other_end : (m : Machine) (programs : List P) → end_here acts m programs ≢ Stalled
  other_end m programs = cond_both (are_over acts m programs m.config.cores) AllDone TurnsUsed (λ e. e ≢ Stalled)
      (λ _ bad. absurd cc) (λ _ bad. absurd cc)

  stalled_so : (t : Standing P) → end_of_turn plan t ≡ Stalled → GoesOn t
  stalled_so t = by_out t.is_out refl t.has_progressed refl
    where
      by_out : (out : Bool) → t.is_out ≡ out → (went : Bool) → t.has_progressed ≡ went →
          cond out Exhausted (cond (true && not went) Stalled (end_here acts t.machine t.programs)) ≡ Stalled → GoesOn t
      by_out true is went went_is ends = absurd (cc)
      by_out false is true went_is ends = absurd (other_end t.machine t.programs ends)
      by_out false is false went_is ends = record { quiet = went_is; in_time = is }

  -- a turn that begins here, and ends the run so
  turn_stood : (n : ℕ) → (run plan n first).end ≡ TurnsUsed →
      (after_turn plan (run plan n first)).end ≡ Stalled → Stood (after_turn plan (run plan n first)).standing
  turn_stood n goes_on stalls = subst Stood (sym same) (record {
    goes_on = so;
    still = subst (λ (r : Round). AreStill s.machine (round_of acts r s))
        (run_stands acts limit round start opening n).own_is still;
    work = subst (λ (e : End). Says plan first e p.standing) goes_on
        (run_says plan first (here_says plan first first.standing) n);
  })
    where
      p : Position P Round
      p = run plan n first

      s : Standing P
      s = begin p.standing

      after : GoesOn (after_actions acts s (round_of acts p.own s))
      after = stalled_so (after_actions acts s (round_of acts p.own s)) stalls

      so : GoesOn s
      so = went acts s (round_of acts p.own s) after

      still : AreStill s.machine (round_of acts p.own s)
      still = all_still acts s (round_of acts p.own s) after

      same : after_actions acts s (round_of acts p.own s) ≡ s
      same = still_leaves acts s so (round_of acts p.own s) still

  more_stood : (n : ℕ) (e : End) → (run plan n first).end ≡ e →
      ((run plan n first).end ≡ Stalled → Stood (run plan n first).standing) →
      (one_more plan e (run plan n first)).end ≡ Stalled → Stood (one_more plan e (run plan n first)).standing
  more_stood n TurnsUsed is before stalls = turn_stood n is stalls
  more_stood n _ is before stalls = before stalls

  stood : (n : ℕ) → (run plan n first).end ≡ Stalled → Stood (run plan n first).standing
  unfolding run
  stood zero stalls = absurd (other_end start opening stalls)
  stood (suc n) stalls = more_stood n (run plan n first).end refl (stood n) stalls

  module _ (running : start.is_stopped ≡ false) {keeps : Bool} {events : List Event} {m : Machine} {programs : List P}
      (ended : Ended keeps plan first events m programs Stalled) where
    abbrev pub last : Standing P
    last = ended.last

    pub stands : Stood last
    stands =
        let h = not_cut ended (λ bad. absurd cc) in
        subst Stood h.standing_is (stood limit h.end_is)

    abbrev pub all : List Event
    all = earlier ++ events

    pub machine_is : last.machine ≡ after_all (at_start config memory) all
    machine_is = ended.machine_is ∙ run_makes plan first refl ended
        ∙ sym (all_both (at_start config memory) earlier events)

    pub runs : last.machine.is_stopped ≡ false
    runs = all_kept plan first (λ s events. Runs acts s) (λ in_time. running)
        (λ own s events made left so is. actions_run acts (begin s) made so) ended stands.goes_on.in_time

    pub of_config : last.machine.config ≡ config
    of_config = ap (λ (n : Machine). n.config) machine_is ∙ (after_all_same (at_start config memory) all).config

    core_count : length last.machine.cores ≡ config.cores
    core_count = ap (λ (n : Machine). length n.cores) machine_is ∙ (after_all_same (at_start config memory) all).cores
        ∙ (at_start_invariant config memory (fair_set_up config good)).core_count

    pub as_many : length last.machine.cores ≡ round.cores
    as_many = core_count ∙ sym (ap (λ (c : Config). c.cores) (after_all_same (at_start config memory) earlier).config)

    abbrev Sends : Machine → Type 0
    Sends n = n.is_stopped ≡ false → length n.mail.messages < config.messages → n.mail.next < 2 ^ 64 - 1 →
        (core : ℕ) (op : Op) → operation_of (slice_get n.cores core) ≡ Some op → MovesOn n

    sends : Sends last.machine
    sends = subst Sends (sym machine_is) (moves_after config good memory all)

    -- with room and numbers, no operation is open
    module _ (room : length last.machine.mail.messages < config.messages)
        (numbers : last.machine.mail.next < 2 ^ 64 - 1) where
      closed : (core : ℕ) (state : CoreState) → slice_get last.machine.cores core ≡ Some state → state.open_op ≡ None
      closed core state at = by_op state.open_op refl
        where
          by_op : (o : Option Op) → state.open_op ≡ o → state.open_op ≡ None
          by_op None opens = opens
          by_op (Some op) opens = absurd (none_moves acts round last stands.goes_on as_many stands.still
              (sends runs room numbers core op (ap operation_of at ∙ opens)))

      free : (core : ℕ) → open_op last.machine core ≡ None
      free core = by_core (slice_get last.machine.cores core) refl
        where
          by_core : (o : Option CoreState) → slice_get last.machine.cores core ≡ o → open_op_of o ≡ None
          by_core None at = refl
          by_core (Some state) at = ap (option_map (λ op. (op, state.is_out))) (closed core state at)

      by_step : (core : ℕ) → core < last.machine.config.cores → (o : Option Step) →
          next_in acts last.programs core ≡ o → is_over acts last.machine last.programs core ≡ false →
          StallsSince acts last.machine last.programs
      by_step core below None next work =
          absurd (let z : true ≡ false = sym (rw (free core, next) refl) ∙ work in cc)
      by_step core below (Some next) is work = by_next next is
        where
          within : core < length last.machine.cores
          within = let z = core_count in let y = ap (λ (c : Config). c.cores) of_config in omega (arith, below, z, y)

          state : CoreState
          state = get_or last.machine.cores core (open_core config core)

          at : slice_get last.machine.cores core ≡ Some state
          at = slice_get-get_or last.machine.cores core (open_core config core) within

          still : (step : Step) → next_in acts last.programs core ≡ Some step →
              IsStill last.machine (step_action core step)
          still step is = step_still acts round last stands.goes_on as_many stands.still core
              (let z = as_many in omega (arith, within, z)) step (free core) is

          by_next : (n : Step) → next_in acts last.programs core ≡ Some n → StallsSince acts last.machine last.programs
          by_next (step.Op op) is = too_many free core op below is
              (issue_refused last.machine runs core state at (closed core state at) op (still (step.Op op) is))
          by_next step.Advance is =
              absurd (advance_moves last.machine runs core state at (closed core state at) (still step.Advance is))

      by_work : (core : ℕ) × (core < last.machine.config.cores)
          × (is_over acts last.machine last.programs core ≡ false) → StallsSince acts last.machine last.programs
      by_work k = by_step k.0 k.1 (next_in acts last.programs k.0) refl k.2

    since : StallsSince acts last.machine last.programs
    since = elim (cases_lt (length last.machine.mail.messages) config.messages) [
      | inr most ↦ full (subst (λ (c : Config). c.messages ≤ length last.machine.mail.messages) (sym of_config) most)
      | inl room ↦ elim (cases_lt last.machine.mail.next (2 ^ 64 - 1)) [
        | inl numbers ↦ by_work room numbers
            (one_not_over acts last.machine last.programs last.machine.config.cores stands.work)
        | inr used ↦ unnumbered used
      ]
    ]

    pub stalls_since : StallsSince acts m programs
    stalls_since = rw (← ended.machine_is, ← ended.programs_are) since
