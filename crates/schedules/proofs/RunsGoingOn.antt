-- A run that goes on where another one used its turns stands where one run of all the turns does.
use Rattle.std.proofs.Common.{◌≡◌, ◌≢◌, ◌⊎◌, ℕ, zero, suc, ◌+◌, ◌≤◌, Bool, true, false, cond, List, ◌++◌, inl, inr}
use Rattle.std.proofs.Common.{refl, sym, ap, ap₂, ◌∙◌, subst, arith, append-nil, append_assoc, ◌↔◌}
use Rattle.std.specs.Fn.{iterate}
use Rattle.machine_table.specs.declared.event.Event.{Event}
use Rattle.machine_table.specs.Machine.{Machine}
use Rattle.machine_theorem.proofs.Lemmas.{after_all_same}
use Rattle.programs.specs.declared.ends.End.{End}
use Rattle.programs.specs.declared.ends.End.TheVariants.{AllDone, TurnsUsed, Exhausted, NoMemory}
use Rattle.programs.specs.Acts.{Acts}
use Rattle.schedules.specs.declared.policy.Policy.{Policy}
use Rattle.schedules.specs.declared.policy.Policy.TheVariants.{Rounds, FairRounds, Seed}
use Rattle.schedules.specs.Parts.{Action, Standing, after_actions, events_of}
use Rattle.schedules.specs.Policies.{EndsBy}
use Rattle.schedules.specs.Schedules.{Schedule}
use Rattle.schedules.specs.RoundSchedule.{no_round, rounds}
use Rattle.schedules.specs.SeedSchedule.{of_seed, seeded}
use Rattle.schedules.specs.Runs.{Plan, Position, are_over, plan_of, initial_position, begin, turn_at}
use Rattle.schedules.specs.Runs.{end_of_turn, one_more, run, IsCut, HasRun, Ended}
use Rattle.schedules.specs.LongerLists.{GoesOnBy}
use Rattle.schedules.proofs.Iterations.{iterate_both, iterate_last, iterate_stays}
use Rattle.schedules.proofs.MoreTurns.{further, run_same}
use Rattle.schedules.proofs.RunLaws.{here_says, not_cut, run_makes, run_says}

in_time_if : (out : Bool) (e : End) → cond out Exhausted e ≡ TurnsUsed → out ≡ false
in_time_if true e used = absurd (cc)
in_time_if false e used = refl

module _ {P S : Type 0} (acts : Acts P) (schedule : Schedule P S) where
  abbrev by : ℕ → Plan P S
  by limit = plan_of acts schedule limit

  -- a run whose turns are used has time left, and made them all
  module _ (limit : ℕ) (m : Machine) (opening : List P) (own : S) where
    record MadeAll (n : ℕ) (p : Position P S) : Type 0 where
      in_time : p.end ≡ TurnsUsed → p.standing.is_out ≡ false
      own_is : p.end ≡ TurnsUsed → p.own ≡ iterate schedule.next n own

    one_made : (n : ℕ) (e : End) (p : Position P S) → p.end ≡ e → MadeAll n p →
        MadeAll (suc n) (one_more (by limit) e p)
    one_made n TurnsUsed p is made = record {
      in_time = in_time_if (after_actions acts (begin p.standing) (turn_at (by limit) p)).is_out _;
      own_is = λ used. ap schedule.next (made.own_is is) ∙ iterate_last schedule.next n own;
    }
    one_made n _ p is made = record {
      in_time = λ used. absurd (let z = sym is ∙ used in cc);
      own_is = λ used. absurd (let z = sym is ∙ used in cc);
    }

    all_made : (n : ℕ) → MadeAll n (run (by limit) n (initial_position acts m opening own))
    unfolding run
    all_made zero = record { in_time = λ used. refl; own_is = λ used. refl }
    all_made (suc n) =
        let p = run (by limit) n (initial_position acts m opening own) in one_made n p.end p refl (all_made n)

  -- a position of the run of all the turns, and one of the run that went on after these events
  record Follows (before : List Event) (p q : Position P S) : Type 0 where
    stands : begin p.standing ≡ begin q.standing
    own_is : p.own ≡ q.own
    events_are : p.events ≡ before ++ q.events
    end_is : p.end ≡ q.end

  module _ (whole part : ℕ) (before : List Event) where
    module _ (p q : Position P S) (so : Follows before p q) where
      turn_same : turn_at (by whole) p ≡ turn_at (by part) q
      turn_same = ap₂ (λ (o : S) (s : Standing P). schedule.turn o s) so.own_is so.stands

      after_same : after_actions acts (begin p.standing) (turn_at (by whole) p)
          ≡ after_actions acts (begin q.standing) (turn_at (by part) q)
      after_same = ap₂ (λ (s : Standing P) (xs : List Action). after_actions acts s xs) so.stands turn_same

      -- the events behind those of both
      both_events : (xs ys : List Action) → xs ≡ ys → p.events ++ events_of acts (begin p.standing) xs
          ≡ before ++ (q.events ++ events_of acts (begin q.standing) ys)
      both_events xs ys same =
          ap₂ (λ (es fs : List Event). es ++ fs) so.events_are
          (ap₂ (λ (s : Standing P) (zs : List Action). events_of acts s zs) so.stands same)
          ∙ append_assoc before q.events (events_of acts (begin q.standing) ys)

      more_follows : (e : End) → Follows before (one_more (by whole) e p) (one_more (by part) e q)
      more_follows TurnsUsed = record {
        stands = ap begin after_same;
        own_is = ap schedule.next so.own_is;
        events_are = both_events (turn_at (by whole) p) (turn_at (by part) q) turn_same;
        end_is = ap (end_of_turn (by whole)) after_same;
      }
      more_follows _ = so

    module _ (turns : ℕ) (start next : Position P S) (first : Follows before (run (by whole) turns start) next) where
      run_follows : (n : ℕ) → Follows before (run (by whole) (turns + n) start) (run (by part) n next)
      unfolding run
      run_follows zero =
          let count : turns ≡ turns + 0 = omega arith in
          subst (λ (k : ℕ). Follows before (run (by whole) k start) next) count first
      run_follows (suc n) =
          let count : suc (turns + n) ≡ turns + suc n = omega arith in
          let so = run_follows n in
          let p = run (by whole) (turns + n) start in
          let q = run (by part) n next in
          subst (λ (k : ℕ). Follows before (run (by whole) k start) (one_more (by part) q.end q)) count
          (subst (λ (e : End). Follows before (one_more (by whole) e p) (one_more (by part) q.end q)) (sym so.end_is)
          (more_follows p q so q.end))

  module _ (turns limit : ℕ) (before : List Event) (start next : Position P S)
      (first : Follows before (run (by (turns + limit)) turns start) next) (keeps : Bool) (more : List Event)
      (after : Machine) (left : List P) (e : End) where
    at_end : (s : Standing P) → s.machine ≡ after → s.programs ≡ left → HasRun (run (by limit) limit next) more s e →
        Ended keeps (by (turns + limit)) start (before ++ more) after left e
    at_end s machine_is programs_are h =
        let so = run_follows (turns + limit) limit before turns start next first limit in
        let stands = so.stands ∙ ap begin h.standing_is in record {
          last = (run (by (turns + limit)) (turns + limit) start).standing;
          machine_is = ap (λ (t : Standing P). t.machine) stands ∙ machine_is;
          programs_are = ap (λ (t : Standing P). t.programs) stands ∙ programs_are;
          ends = inl (record {
            standing_is = refl;
            events_are = so.events_are ∙ ap (λ (es : List Event). before ++ es) h.events_are;
            end_is = so.end_is ∙ h.end_is;
          });
        }

    at_cut : (s : Standing P) → IsCut keeps (by limit) next more s e →
        IsCut keeps (by (turns + limit)) start (before ++ more) s e
    at_cut s cut =
        let so = run_follows (turns + limit) limit before turns start next first cut.turns in
        let p = run (by (turns + limit)) (turns + cut.turns) start in
        let q = run (by limit) cut.turns next in record {
          end_is = cut.end_is;
          turns = turns + cut.turns;
          within = omega (arith, cut.within);
          goes_on = so.end_is ∙ cut.goes_on;
          made = cut.made;
          left = cut.left;
          turn_is = turn_same (turns + limit) limit before p q so ∙ cut.turn_is;
          leads = ap (λ (t : Standing P). after_actions acts t cut.made) so.stands ∙ cut.leads;
          events_are = ap (λ (es : List Event). before ++ es) cut.events_are
              ∙ sym (both_events (turns + limit) limit before p q so cut.made cut.made refl);
          in_time = cut.in_time;
          asks = cut.asks;
        }

    goes_on : Ended keeps (by limit) next more after left e →
        Ended keeps (by (turns + limit)) start (before ++ more) after left e
    goes_on ended = by_end ended.ends
      where
        by_end : HasRun (run (by limit) limit next) more ended.last e ⊎ IsCut keeps (by limit) next more ended.last e →
            Ended keeps (by (turns + limit)) start (before ++ more) after left e
        by_end (inl h) = at_end ended.last ended.machine_is ended.programs_are h
        by_end (inr cut) = record {
          last = ended.last;
          machine_is = ended.machine_is;
          programs_are = ended.programs_are;
          ends = inr (at_cut ended.last cut);
        }

  -- where a run used its turns, another one begins
  module _ (keeps : Bool) (turns limit : ℕ) (m between : Machine) (programs met : List P) (own : S)
      (events : List Event)
      (ended : Ended keeps (by turns) (initial_position acts m programs own) events between met TurnsUsed) where
    abbrev start : Position P S
    start = initial_position acts m programs own

    ran : HasRun (run (by turns) turns start) events ended.last TurnsUsed
    ran = not_cut ended (λ bad. absurd cc)

    made : MadeAll turns m programs own turns (run (by turns) turns start)
    made = all_made turns m programs own turns

    work : are_over acts between met between.config.cores ≡ false
    work =
        let left : are_over acts ended.last.machine ended.last.programs ended.last.machine.config.cores ≡ false =
        rw (ran.standing_is, ran.end_is) at
        (run_says (by turns) start (here_says (by turns) start start.standing) turns)
        in rw (ended.machine_is, ended.programs_are) at left

    abbrev next : Position P S
    next = initial_position acts between met (iterate schedule.next turns own)

    begins : Follows events (run (by turns) turns start) next
    begins = record {
      stands = λ i. record {
        machine = (ap (λ (s : Standing P). s.machine) ran.standing_is ∙ ended.machine_is) i;
        programs = (ap (λ (s : Standing P). s.programs) ran.standing_is ∙ ended.programs_are) i;
        has_progressed = false;
        is_out = made.in_time ran.end_is i;
      };
      own_is = made.own_is ran.end_is;
      events_are = ran.events_are ∙ sym (append-nil events);
      end_is = ran.end_is ∙ sym (ap (λ (b : Bool). cond b AllDone TurnsUsed) work);
    }

    begins_whole : Follows events (run (by (turns + limit)) turns start) next
    begins_whole =
        subst (λ (p : Position P S). Follows events p next) (run_same (by (turns + limit)) turns turns start)
        begins

    module _ (also : Bool) (after : Machine) (left : List P) (end : End) where
      abbrev pub Part : List Event → Type 0
      Part more = Ended also (by limit) next more after left end

      pub both_ended : (more : List Event) → Part more →
          Ended also (by (turns + limit)) start (events ++ more) after left end
      both_ended more = goes_on turns limit events start next begins_whole also more after left end

      -- and a run of all the turns has such a part
      pub part_of : (all : List Event) → Ended also (by (turns + limit)) start all after left end → end ≢ NoMemory →
          (more : List Event) × (all ≡ events ++ more) × Part more
      part_of all whole had =
          let h = not_cut whole had in
          let so = run_follows (turns + limit) limit events turns start next begins_whole limit in
          let stands = sym so.stands ∙ ap begin h.standing_is in (
            (run (by limit) limit next).events,
            sym h.events_are ∙ so.events_are,
            record {
              last = (run (by limit) limit next).standing;
              machine_is = ap (λ (s : Standing P). s.machine) stands ∙ whole.machine_is;
              programs_are = ap (λ (s : Standing P). s.programs) stands ∙ whole.programs_are;
              ends = inl (record { standing_is = refl; events_are = refl; end_is = sym so.end_is ∙ h.end_is });
            },
          )

module _ {P : Type 0} (acts : Acts P) where
  pub goes_on_at_first : (keeps : Bool) (policy : Policy) (limit : ℕ) (m after : Machine) (programs left : List P)
      (events : List Event) (end : End) → GoesOnBy keeps acts policy 0 limit m programs events after left end
      ↔ EndsBy keeps acts policy limit m programs events after left end
  goes_on_at_first keeps Rounds limit m after programs left events end = (λ ends. ends, λ ends. ends)
  goes_on_at_first keeps FairRounds limit m after programs left events end = (λ ends. ends, λ ends. ends)
  goes_on_at_first keeps (Seed seed) limit m after programs left events end = (λ ends. ends, λ ends. ends)

  pub runs_further : (keeps : Bool) (policy : Policy) (turns limit more : ℕ) (m after : Machine)
      (programs left : List P) (events : List Event) (end : End) →
      GoesOnBy keeps acts policy turns limit m programs events after left end → end ≢ TurnsUsed → limit ≤ more →
      GoesOnBy keeps acts policy turns more m programs events after left end
  runs_further keeps Rounds turns limit more m after programs left events end ended other within =
      further (plan_of acts (rounds acts) limit) more within _ other ended
  runs_further keeps FairRounds turns limit more m after programs left events end ended other within =
      further (plan_of acts (rounds acts) limit) more within _ other ended
  runs_further keeps (Seed seed) turns limit more m after programs left events end ended other within =
      further (plan_of acts (seeded acts) limit) more within _ other ended

  module _ (keeps : Bool) (turns limit : ℕ) (m between after : Machine) (programs met left : List P)
      (events : List Event) (end : End) where
    -- a run that goes on by a schedule in this state
    abbrev GoesOnFrom : {S : Type 0} → Schedule P S → S → List Event → Type 0
    GoesOnFrom schedule own more =
        Ended keeps (plan_of acts schedule limit) (initial_position acts between met own) more after left end

    -- rounds go on as they began
    round_same : (fair : Bool) → Ended keeps (plan_of acts (rounds acts) turns)
        (initial_position acts m programs (no_round fair m.config.cores)) events between met TurnsUsed →
        no_round fair between.config.cores ≡ iterate (rounds acts).next turns (no_round fair m.config.cores)
    round_same fair first =
        let round = no_round fair m.config.cores in
        let start = initial_position acts m programs round in
        let makes = run_makes (plan_of acts (rounds acts) turns) start refl first in
        ap (λ (n : Machine). no_round fair n.config.cores) makes
        ∙ ap (λ c. no_round fair c.cores) (after_all_same m events).config
        ∙ sym (iterate_stays (rounds acts).next (λ r. refl) turns round)

    pub runs_on : (more : List Event) (policy : Policy) (done : ℕ) →
        GoesOnBy keeps acts policy done turns m programs events between met TurnsUsed →
        GoesOnBy keeps acts policy (done + turns) limit between met more after left end →
        GoesOnBy keeps acts policy done (turns + limit) m programs (events ++ more) after left end
    runs_on more Rounds done first second =
        both_ended acts (rounds acts) keeps turns limit m between programs met (no_round false m.config.cores) events
        first keeps after left end more
        (subst (λ own. GoesOnFrom (rounds acts) own more) (round_same false first) second)
    runs_on more FairRounds done first second =
        both_ended acts (rounds acts) keeps turns limit m between programs met (no_round true m.config.cores) events
        first keeps after left end more
        (subst (λ own. GoesOnFrom (rounds acts) own more) (round_same true first) second)
    runs_on more (Seed seed) done first second =
        let next = (seeded acts).next in
        both_ended acts (seeded acts) keeps turns limit m between programs met (iterate next done (of_seed seed)) events
        first keeps after left end more
        (subst (λ own. GoesOnFrom (seeded acts) own more) (sym (iterate_both next done turns (of_seed seed))) second)

    pub run_in_parts : (all : List Event) (policy : Policy) (done : ℕ) →
        GoesOnBy keeps acts policy done turns m programs events between met TurnsUsed →
        GoesOnBy keeps acts policy done (turns + limit) m programs all after left end → end ≢ NoMemory →
        (more : List Event) × (all ≡ events ++ more)
        × GoesOnBy keeps acts policy (done + turns) limit between met more after left end
    run_in_parts all Rounds done first whole had =
        let k = part_of acts (rounds acts) keeps turns limit m between programs met (no_round false m.config.cores)
        events first keeps after left end all whole had in
        (k.0, k.1, subst (λ own. GoesOnFrom (rounds acts) own k.0) (sym (round_same false first)) k.2)
    run_in_parts all FairRounds done first whole had =
        let k = part_of acts (rounds acts) keeps turns limit m between programs met (no_round true m.config.cores)
        events first keeps after left end all whole had in
        (k.0, k.1, subst (λ own. GoesOnFrom (rounds acts) own k.0) (sym (round_same true first)) k.2)
    run_in_parts all (Seed seed) done first whole had =
        let next = (seeded acts).next in
        let k = part_of acts (seeded acts) keeps turns limit m between programs met
        (iterate next done (of_seed seed)) events first keeps after left end all whole had in
        (k.0, k.1, subst (λ own. GoesOnFrom (seeded acts) own k.0) (iterate_both next done turns (of_seed seed)) k.2)
