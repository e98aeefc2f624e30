-- Runs of one schedule that differ in their limits: the turns don't see it, and no turn follows an end.
use Rattle.std.proofs.Common.{◌≡◌, ◌≢◌, ℕ, zero, suc, ◌<◌, ◌≤◌, Bool, List, ◌++◌, inl, inr, refl, sym, ap, ◌∙◌, subst}
use Rattle.std.proofs.Common.{arith}
use Rattle.std.proofs.lemmas.Bool.{cases_eq}
use Rattle.machine_table.specs.declared.event.Event.{Event}
use Rattle.machine_table.specs.Machine.{Machine}
use Rattle.programs.specs.declared.ends.End.{End}
use Rattle.programs.specs.declared.ends.End.TheVariants.{TurnsUsed}
use Rattle.schedules.specs.Parts.{Standing, after_actions, events_of}
use Rattle.schedules.specs.Runs.{Plan, Position, plan_of, begin, turn_at, one_more, run, IsCut, HasRun, Ended, EndedIn}

-- a run that ended stays as it is
one_more_stays : {P S : Type 0} (plan : Plan P S) (e : End) (p : Position P S) → e ≢ TurnsUsed →
    one_more plan e p ≡ p
one_more_stays plan TurnsUsed p over = absurd (over refl)
one_more_stays plan _ p over = refl

module _ {P S : Type 0} (plan : Plan P S) (start : Position P S) where
  pub stays_ended : (limit turns : ℕ) → turns ≤ limit → (run plan turns start).end ≢ TurnsUsed →
      run plan limit start ≡ run plan turns start
  unfolding run
  stays_ended zero turns le over =
      let none : 0 ≡ turns = omega (arith, le) in ap (λ (n : ℕ). run plan n start) none
  stays_ended (suc limit) turns le over = elim (cases_eq turns (suc limit)) [
    | inl e ↦ ap (λ (n : ℕ). run plan n start) (sym e)
    | inr other ↦ let before = stays_ended limit turns (omega (arith, le, other)) over in
        ap (λ (p : Position P S). one_more plan p.end p) before
        ∙ one_more_stays plan (run plan turns start).end (run plan turns start) over
  ]

-- the same plan with a greater limit
module _ {P S : Type 0} (plan : Plan P S) (more : ℕ) where
  abbrev longer : Plan P S
  longer = plan_of plan.acts plan.schedule more

  more_same : (e : End) (p : Position P S) → one_more longer e p ≡ one_more plan e p
  more_same TurnsUsed p = refl
  more_same _ p = refl

  pub run_same : (n : ℕ) (p : Position P S) → run longer n p ≡ run plan n p
  unfolding run
  run_same zero p = refl
  run_same (suc n) p =
      ap (λ (q : Position P S). one_more longer q.end q) (run_same n p)
      ∙ more_same (run plan n p).end (run plan n p)

  -- memory was refused in one of these turns
  pub cut_in : {start : Position P S} {keeps : Bool} {events : List Event} {s : Standing P} {e : End}
      (cut : IsCut keeps plan start events s e) → cut.turns < more → IsCut keeps longer start events s e
  cut_in {start} cut within =
      let same = run_same cut.turns start in record {
        end_is = cut.end_is;
        turns = cut.turns;
        within = within;
        goes_on = ap (λ (p : Position P S). p.end) same ∙ cut.goes_on;
        made = cut.made;
        left = cut.left;
        turn_is = ap (turn_at longer) same ∙ cut.turn_is;
        leads = ap (λ (p : Position P S). after_actions plan.acts (begin p.standing) cut.made) same ∙ cut.leads;
        events_are = cut.events_are
            ∙ sym (ap (λ (p : Position P S). p.events ++ events_of plan.acts (begin p.standing) cut.made) same);
        in_time = cut.in_time;
        asks = cut.asks;
      }

  -- a run that ended otherwise than by its turns is one of more turns as well
  module _ (within : plan.limit ≤ more) (start : Position P S) {events : List Event} {e : End} (other : e ≢ TurnsUsed)
    where
      run_further : {s : Standing P} → HasRun (run plan plan.limit start) events s e →
          HasRun (run longer more start) events s e
      run_further {s} h =
          let same = run_same plan.limit start in
          let stays = stays_ended longer start more plan.limit within
          (λ used. other (sym h.end_is ∙ sym (ap (λ (p : Position P S). p.end) same) ∙ used)) in
          subst (λ (p : Position P S). HasRun p events s e) (sym (stays ∙ same)) h

      pub further : {keeps : Bool} {after : Machine} {left : List P} → Ended keeps plan start events after left e →
          Ended keeps longer start events after left e
      further ended = record {
        last = ended.last;
        machine_is = ended.machine_is;
        programs_are = ended.programs_are;
        ends = elim ended.ends [
          | inl h ↦ inl (run_further h)
          | inr cut ↦ inr (cut_in cut (omega (arith, cut.within, within)))
        ];
      }

-- a run that began so many turns is one of its whole plan
pub all_turns : {P S : Type 0} (plan : Plan P S) (start : Position P S) (turns : ℕ) {keeps : Bool} {events : List Event}
    {after : Machine} {left : List P} (e : End) → EndedIn turns keeps plan start events after left e →
    Ended keeps plan start events after left e
all_turns plan start turns {keeps} {events} {after} {left} TurnsUsed is =
    subst (λ (n : ℕ). Ended keeps (plan_of plan.acts plan.schedule n) start events after left TurnsUsed) (is.used refl)
    is.ended
all_turns plan start turns _ is =
    further (plan_of plan.acts plan.schedule turns) plan.limit is.within start (λ bad. absurd cc) is.ended
