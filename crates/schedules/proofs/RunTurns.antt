-- How turns begin and end, and a run with them.
use Rattle.std.proofs.Common.{◌≡◌, inl, inr, ℕ, suc, ◌+◌, ◌<◌, ◌≤◌, ◌&&◌, not, Bool, true, false, List}
use Rattle.std.proofs.Common.{◌++◌, Some, refl, sym, subst, ap, ap₂, ◌∙◌, arith}
use Rattle.std.specs.Fn.{iterate}
use Rattle.std.proofs.lemmas.Bool.{cases_eq}
use Rattle.machine_table.specs.declared.event.Event.{Event}
use Rattle.machine_table.specs.Machine.{Machine}
use Rattle.programs.specs.declared.ends.End.{End}
use Rattle.programs.specs.declared.ends.End.TheVariants as end
use Rattle.schedules.specs.Parts.{Action, Standing, after_actions, events_of}
use Rattle.schedules.specs.Runs.{Plan, Position, initial_position, begin, turn_at, end_of_turn, after_turn}
use Rattle.schedules.specs.Runs.{one_more, run, plan_of, are_over, end_here, IsCut, HasRun, Ended, EndedIn}
use Rattle.schedules.specs.Notes.{Point, at, standing, IsMade, IsRefused, Reaches, Finishes}
use Rattle.schedules.specs.Watches.{Watches, AreSeen}
use Rattle.schedules.specs.declared.log.Log.{Log}
use Rattle.schedules.proofs.Iterations.{iterate_last}
use Rattle.schedules.proofs.MoreTurns.{all_turns, cut_in, run_same}
use Rattle.schedules.proofs.Parts.{seen_both}

module _ {P S W : Type 0} (watches : Watches W) (plan : Plan P S) (start : Position P S) (first : W) where
  -- what was seen of a run up to a point
  abbrev IsSeen : List Event → Point P W → Type 0
  IsSeen events p = AreSeen watches (watches.seen first) start.standing.machine events p.machine p.log.watcher

  abbrev Ends : Point P W → S → End → Type 0
  Ends p own e = Finishes watches plan start first p.log.watcher p.machine p.programs own e

  -- the turns before one were used, and the schedule went on by as many
  pub record Gone (turns : ℕ) (own : S) : Type 0 where
    pub begun : (fewer : ℕ) → fewer < turns → (run plan fewer start).end ≡ end.TurnsUsed
    pub own_is : own ≡ iterate plan.schedule.next turns start.own

  abbrev standing_at : Point P W → Bool → Bool → Standing P
  standing_at p out progressed = record (standing p out) { has_progressed = progressed }

  -- a run ends in the last one of so many turns
  module _ (turns : ℕ) (within : turns ≤ plan.limit) (p : Point P W) (own : S) (gone : Gone turns own) (e : End)
      (used : e ≡ end.TurnsUsed → turns ≡ plan.limit) where
    finished : (events : List Event) → IsSeen events p →
        Ended watches.asks (plan_of plan.acts plan.schedule turns) start events p.machine p.programs e → Ends p own e
    finished events seen ended =
        let is : EndedIn turns watches.asks plan start events p.machine p.programs e =
        record { within = within; used = used; begun = gone.begun; ended = ended } in
        (events, all_turns plan start turns e is, seen, turns, is, gone.own_is)

    ended_by : (out progressed : Bool) → (run plan turns start).standing ≡ standing_at p out progressed →
        (run plan turns start).end ≡ e → IsSeen (run plan turns start).events p → Ends p own e
    ended_by out progressed standing_is end_is seen = finished (run plan turns start).events seen (record {
      last = standing_at p out progressed;
      machine_is = refl;
      programs_are = refl;
      ends = inl (subst (λ (q : Position P S). HasRun q (run plan turns start).events (standing_at p out progressed) e)
          (sym (run_same plan turns turns start))
          (record { standing_is = standing_is; events_are = refl; end_is = end_is }));
    })

  -- a run stands at this point, before a turn or after the last one
  pub record IsAt (turns : ℕ) (p : Point P W) (own : S) : Type 0 where
    pub out : Bool
    pub progressed : Bool
    pub standing_is : (run plan turns start).standing ≡ standing_at p out progressed
    pub in_time : out ≡ false
    pub own_is : (run plan turns start).own ≡ own
    pub end_is : (run plan turns start).end ≡ end_here plan.acts p.machine p.programs
    pub seen : IsSeen (run plan turns start).events p
    pub gone : Gone turns own

  module _ (turns : ℕ) (p : Point P W) (own : S) (here : IsAt turns p own) where
    pub all_done : are_over plan.acts p.machine p.programs p.machine.config.cores ≡ true → turns ≤ plan.limit →
        Ends p own end.AllDone
    all_done over le =
        ended_by turns le p own here.gone end.AllDone (λ bad. absurd cc) here.out here.progressed here.standing_is
        (here.end_is ∙ rw over refl) here.seen

    pub turns_used : are_over plan.acts p.machine p.programs p.machine.config.cores ≡ false → turns ≡ plan.limit →
        Ends p own end.TurnsUsed
    turns_used over last =
        ended_by turns (omega (arith, last)) p own here.gone end.TurnsUsed (λ used. last) here.out here.progressed
        here.standing_is (here.end_is ∙ rw over refl) here.seen

  -- a turn begins at this point
  pub record InTurn (turns : ℕ) (p : Point P W) (own : S) : Type 0 where
    pub goes_on : (run plan turns start).end ≡ end.TurnsUsed
    pub begins : begin (run plan turns start).standing ≡ standing p false
    pub own_is : (run plan turns start).own ≡ own
    pub seen : IsSeen (run plan turns start).events p
    pub gone : Gone turns own

  pub turn_begun : (turns : ℕ) (m : Machine) (programs : List P) (log log_now : Log W) (own : S) →
      IsAt turns (at m programs log) own → are_over plan.acts m programs m.config.cores ≡ false →
      log_now ≡ record log { has_progressed = false } → InTurn turns (at m programs log_now) own
  turn_begun turns m programs log log_now own here over noted = record {
    goes_on = here.end_is ∙ rw over refl;
    begins = ap begin here.standing_is ∙ rw (here.in_time, noted) refl;
    own_is = here.own_is;
    seen = rw noted here.seen;
    gone = here.gone;
  }

  module _ (turns : ℕ) (p : Point P W) (own : S) (now : InTurn turns p own) where
    turn_is : turn_at plan (run plan turns start) ≡ plan.schedule.turn own (standing p false)
    turn_is = ap₂ (λ (o : S) (s : Standing P). plan.schedule.turn o s) now.own_is now.begins

    next_is : run plan (suc turns) start ≡ after_turn plan (run plan turns start)
    unfolding run
    next_is = ap (λ (e : End). one_more plan e (run plan turns start)) now.goes_on

    module _ (q : Point P W) (out : Bool)
        (made : IsMade plan.acts watches (plan.schedule.turn own (standing p false)) p q out) where
      stands : (run plan (suc turns) start).standing ≡ standing q out
      stands =
          ap (λ (r : Position P S). r.standing) next_is
          ∙ ap₂ (λ (s : Standing P) (actions : List Action). after_actions plan.acts s actions) now.begins turn_is
          ∙ made.leads

      ends : (run plan (suc turns) start).end ≡ end_of_turn plan (standing q out)
      ends =
          ap (λ (r : Position P S). r.end) next_is
          ∙ ap (end_of_turn plan) (sym (ap (λ (r : Position P S). r.standing) next_is) ∙ stands)

      are_seen : IsSeen (run plan (suc turns) start).events q
      are_seen =
          subst (λ (l : List Event). IsSeen l q)
          (sym (ap (λ (r : Position P S). r.events) next_is
          ∙ ap₂ (λ (s : Standing P) (actions : List Action). (run plan turns start).events
          ++ events_of plan.acts s actions) now.begins turn_is))
          (seen_both watches (run plan turns start).events _ now.seen made.seen)

    -- the schedule goes on by the turn
    module _ (own_after : S) (own_is : own_after ≡ plan.schedule.next own) where
      gone_on : Gone (suc turns) own_after
      gone_on = record {
        begun = λ fewer below. elim (cases_eq fewer turns) [
          | inl same ↦ rw same now.goes_on
          | inr other ↦ now.gone.begun fewer (omega (arith, below, other))
        ];
        own_is = own_is ∙ ap plan.schedule.next now.gone.own_is ∙ iterate_last plan.schedule.next turns start.own;
      }

      module _ (q : Point P W)
          (made : IsMade plan.acts watches (plan.schedule.turn own (standing p false)) p q false) where
        pub turn_over : (plan.schedule.stalls && not q.log.has_progressed) ≡ false → IsAt (turns + 1) q own_after
        turn_over more = let count : suc turns ≡ turns + 1 = omega arith in
            subst (λ (n : ℕ). IsAt n q own_after) count (record {
              out = false;
              progressed = q.log.has_progressed;
              standing_is = stands q false made;
              in_time = refl;
              own_is = ap (λ (r : Position P S). r.own) next_is ∙ ap plan.schedule.next now.own_is ∙ sym own_is;
              end_is = ends q false made ∙ rw more refl;
              seen = are_seen q false made;
              gone = gone_on;
            })

        pub stalled : (plan.schedule.stalls && not q.log.has_progressed) ≡ true → turns < plan.limit →
            Ends q own_after end.Stalled
        stalled last below =
            ended_by (suc turns) (omega (arith, below)) q own_after gone_on end.Stalled (λ bad. absurd cc) false
            q.log.has_progressed (stands q false made) (ends q false made ∙ rw last refl) (are_seen q false made)

      exhausted : turns < plan.limit → (q : Point P W) →
          IsMade plan.acts watches (plan.schedule.turn own (standing p false)) p q true → Ends q own_after end.Exhausted
      exhausted below q made =
          ended_by (suc turns) (omega (arith, below)) q own_after gone_on end.Exhausted (λ bad. absurd cc) true
          q.log.has_progressed (stands q true made) (ends q true made) (are_seen q true made)

      abbrev cut_short : turns < plan.limit → (q : Point P W)
          (cut : IsRefused plan.acts watches (plan.schedule.turn own (standing p false)) p q) →
          IsCut watches.asks plan start
          ((run plan turns start).events ++ events_of plan.acts (standing p false) cut.made) (standing q false)
          end.NoMemory
      cut_short below q cut = record {
        end_is = refl;
        turns = turns;
        within = below;
        goes_on = now.goes_on;
        made = cut.made;
        left = cut.left;
        turn_is = turn_is ∙ cut.actions_are;
        leads = ap (λ (s : Standing P). after_actions plan.acts s cut.made) now.begins ∙ cut.is_made.leads;
        events_are = ap (λ (s : Standing P). (run plan turns start).events ++ events_of plan.acts s cut.made)
            (sym now.begins);
        in_time = refl;
        asks = cut.asks;
      }

      refused : turns < plan.limit → (q : Point P W) →
          IsRefused plan.acts watches (plan.schedule.turn own (standing p false)) p q → Ends q own_after end.NoMemory
      refused below q cut =
          finished (suc turns) (omega (arith, below)) q own_after gone_on end.NoMemory (λ bad. absurd cc) _
          (seen_both watches (run plan turns start).events _ now.seen cut.is_made.seen) (record {
            last = standing q false;
            machine_is = refl;
            programs_are = refl;
            ends = let last : turns < suc turns = omega arith in
                inr (cut_in plan (suc turns) (cut_short below q cut) last);
          })

      -- a turn that ends the run
      pub did_end : turns < plan.limit → (e : End) (q : Point P W) →
          Reaches plan.acts watches (plan.schedule.turn own) p (Some e) q → Ends q own_after e
      did_end below end.Exhausted q made = exhausted below q made
      did_end below end.NoMemory q cut = refused below q cut
      did_end below _ q did = absurd did

-- before the first turn
pub at_first : {P S W : Type 0} (watches : Watches W) (plan : Plan P S) (m : Machine) (programs : List P) (log : Log W)
    (own : S) → IsAt watches plan (initial_position plan.acts m programs own) log.watcher 0
    (at m programs log) own
unfolding run
at_first watches plan m programs log own = record {
  out = false;
  progressed = false;
  standing_is = refl;
  in_time = refl;
  own_is = refl;
  end_is = refl;
  seen = record { leads = refl; seen = refl };
  gone = record { begun = λ fewer below. absurd (omega (arith, below)); own_is = refl };
}
