-- Runs of lists of steps with more behind them: turn after turn they stand where the lists alone do.
use Rattle.std.proofs.Common.{◌≡◌, ◌⊎◌, ◌==◌, ℕ, zero, suc, ◌+◌, ◌-◌, ◌<◌, ◌≤◌, ◌&&◌, not, is_none, Bool, true, false}
use Rattle.std.proofs.Common.{cond, List, [], ◌∷◌, ◌++◌, length, get_or, Option, Some, None, inl, inr, refl, sym, ap}
use Rattle.std.proofs.Common.{ap₂, ◌∙◌, subst, arith}
use Rattle.std.specs.Prelude.{option_map, slice_get}
use Rattle.std.specs.Fn.{iterate}
use Rattle.std.specs.List.{list_all}
use Rattle.std.proofs.lemmas.Bool.{and_parts, and_right, cases_lt, eqb-true, true≢false}
use Rattle.std.proofs.lemmas.Option.{slice_get-get_or}
use Rattle.rand_pcg.specs.Lcg.{Lcg}
use Rattle.rand_pcg.specs.Pcg.{pcg32}
use Rattle.machine_table.specs.declared.event.Event.{Event}
use Rattle.machine_table.specs.Machine.{Machine, open_op}
use Rattle.machine_theorem.proofs.Lemmas.{after_all_same}
use Rattle.programs.specs.declared.ends.End.{End}
use Rattle.programs.specs.declared.ends.End.TheVariants.{AllDone, Stalled, TurnsUsed, Exhausted}
use Rattle.programs.specs.declared.steps.Step.{Step}
use Rattle.programs.specs.Acts.{first_step, next_of, next_in}
use Rattle.schedules.specs.declared.policy.Policy.{Policy}
use Rattle.schedules.specs.declared.policy.Policy.TheVariants.{Rounds, FairRounds, Seed}
use Rattle.schedules.specs.Parts.{Standing, after_actions, events_of}
use Rattle.schedules.specs.Schedules.{Schedule}
use Rattle.schedules.specs.RoundSchedule.{no_round, rounds}
use Rattle.schedules.specs.SeedSchedule.{of_seed, seeded}
use Rattle.schedules.specs.Runs.{Plan, Position, is_over, are_over, end_here, plan_of, opened, initial_position, begin}
use Rattle.schedules.specs.Runs.{turn_at, end_of_turn, after_turn, one_more, run, IsCut, HasRun, Ended}
use Rattle.schedules.specs.Runs.{EndedIn}
use Rattle.schedules.specs.Paces.{GoesOnIn, Paced}
use Rattle.schedules.specs.LongerLists.{GoesOnBy, IsAhead, end_before, joined, step_acts}
use Rattle.schedules.proofs.JoinedLists.{Ready, fewer, list_joined, next_joined, ready_for_less}
use Rattle.schedules.proofs.LongerTurns.{AreAlike, Kept, drawn_kept, events_alike, front_alike, leads_alike, longer}
use Rattle.schedules.proofs.LongerTurns.{round_kept}
use Rattle.schedules.proofs.Over.{not_over, one_not_over}
use Rattle.schedules.proofs.RunLaws.{not_cut, turn_makes}

-- whether nothing stands behind any list
abbrev is_nothing : List (List Step) → Bool
is_nothing behind = list_all (λ steps. length steps == 0) behind

each_empty : (behind : List (List Step)) (c : ℕ) → is_nothing behind ≡ true → get_or behind c [] ≡ []
each_empty [] c nothing = refl
each_empty ([] ∷ behind) zero nothing = refl
each_empty ([] ∷ behind) (suc c) nothing = each_empty behind c nothing
each_empty ((x ∷ xs) ∷ behind) c nothing =
    let parts = and_parts (length (x ∷ xs) == 0) (is_nothing behind) nothing in
    let none = eqb-true (length (x ∷ xs)) 0 parts.0 in absurd (omega (arith, none))

one_left : (behind : List (List Step)) → is_nothing behind ≡ false →
    (c : ℕ) × (c < length behind) × (0 < length (get_or behind c []))
one_left [] some = absurd (true≢false some)
one_left ([] ∷ behind) some = let k = one_left behind some in (suc k.0, omega (arith, k.1), k.2)
one_left ((x ∷ xs) ∷ behind) some = (0, omega arith, omega arith)

-- a longer list has a next step, too
has_first : (list more : List Step) → 0 < length more → is_none (first_step (list ++ more)) ≡ false
has_first [] [] some = absurd (omega (arith, some))
has_first [] (x ∷ xs) some = refl
has_first (x ∷ xs) more some = refl

still_first : (list more : List Step) → is_none (first_step list) ≡ false →
    is_none (first_step (list ++ more)) ≡ false
still_first [] more has = absurd (true≢false has)
still_first (x ∷ xs) more has = refl

not_both : (x y z : Bool) → (x && y) ≡ false → (y ≡ false → z ≡ false) → (x && z) ≡ false
not_both false y z is then = refl
not_both true y z is then = then is

module _ (behind : List (List Step)) (m : Machine) (lists : List (List Step)) (count : length behind ≡ length lists)
  where
    over_same : ((core : ℕ) → next_in step_acts (joined lists behind) core ≡ next_in step_acts lists core) → (n : ℕ) →
        are_over step_acts m (joined lists behind) n ≡ are_over step_acts m lists n
    over_same same zero = refl
    over_same same (suc n) =
        ap₂ (λ (x y : Bool). x && y) (over_same same n)
        (ap (λ (o : Option Step). is_none (open_op m n) && is_none o) (same n))

    end_by : (end : End) → (b : Bool) → are_over step_acts m (joined lists behind) m.config.cores ≡ b →
        cond b AllDone TurnsUsed ≡ end → end_here step_acts m (joined lists behind) ≡ end
    end_by end b is same = ap (λ (c : Bool). cond c AllDone TurnsUsed) is ∙ same

    -- a core that isn't over
    works : (core : ℕ) → core < m.config.cores → is_over step_acts m (joined lists behind) core ≡ false →
        are_over step_acts m (joined lists behind) m.config.cores ≡ false
    works = not_over step_acts m (joined lists behind) m.config.cores

    more_behind : (core : ℕ) → core < length lists → 0 < length (get_or behind core []) →
        is_over step_acts m (joined lists behind) core ≡ false
    more_behind core below some =
        and_right (is_none (open_op m core)) (is_none (next_in step_acts (joined lists behind) core))
        (ap (λ (o : Option (List Step)). is_none (next_of step_acts o))
        (list_joined lists behind core count
        ∙ ap (option_map (λ list. list ++ get_or behind core [])) (slice_get-get_or lists core [] below))
        ∙ has_first (get_or lists core []) (get_or behind core []) some)

    still_works : (core : ℕ) → is_over step_acts m lists core ≡ false →
        is_over step_acts m (joined lists behind) core ≡ false
    still_works core work =
        not_both (is_none (open_op m core)) (is_none (next_in step_acts lists core)) _ work
        (λ has. ap (λ (o : Option (List Step)). is_none (next_of step_acts o)) (list_joined lists behind core count)
        ∙ by_list (slice_get lists core) has)
      where
        by_list : (o : Option (List Step)) → is_none (next_of step_acts o) ≡ false →
            is_none (next_of step_acts (option_map (λ list. list ++ get_or behind core []) o)) ≡ false
        by_list None has = absurd (true≢false has)
        by_list (Some list) has = still_first list (get_or behind core []) has

    -- the end, if no turn follows
    end_longer : m.config.cores ≡ length behind →
        end_here step_acts m (joined lists behind) ≡ end_before behind (end_here step_acts m lists)
    end_longer cores = by_over (are_over step_acts m lists m.config.cores) refl
      where
        by_nothing : (b : Bool) → is_nothing behind ≡ b → are_over step_acts m lists m.config.cores ≡ true →
            end_here step_acts m (joined lists behind) ≡ cond b AllDone TurnsUsed
        by_nothing true nothing over =
            end_by AllDone true
            (over_same (λ core. next_joined lists behind core count (inl (each_empty behind core nothing)))
            m.config.cores ∙ over) refl
        by_nothing false some over =
            let k = one_left behind some in
            end_by TurnsUsed false (works k.0 (rw cores k.1) (more_behind k.0 (omega (arith, count, k.1)) k.2)) refl

        by_over : (b : Bool) → are_over step_acts m lists m.config.cores ≡ b →
            end_here step_acts m (joined lists behind) ≡ end_before behind (cond b AllDone TurnsUsed)
        by_over true over = by_nothing (is_nothing behind) refl over
        by_over false work =
            let k = one_not_over step_acts m lists m.config.cores work in
            end_by TurnsUsed false (works k.0 k.1 (still_works k.0 k.2)) refl

    -- and it is the same while each list has a step
    end_early : m.config.cores ≡ length behind → (k : ℕ) → 1 ≤ k → Ready behind (λ core. k) lists →
        end_before behind (end_here step_acts m lists) ≡ end_here step_acts m lists
    end_early cores k some ready =
        sym (end_longer cores)
        ∙ ap (λ (b : Bool). cond b AllDone TurnsUsed) (over_same (λ core. next_joined lists behind core count
        (fewer k 1 _ _ some (ready.ahead core))) m.config.cores)

module _ {S : Type 0} (behind : List (List Step)) (schedule : Schedule (List Step) S)
    (keeps_turn : (own : S) (k : ℕ) (s : Standing (List Step)) → Ready behind (λ core. suc k) s.programs →
    Kept behind (λ core. k) (schedule.turn own) s) (limit : ℕ) where
  abbrev plan : Plan (List Step) S
  plan = plan_of step_acts schedule limit

  abbrev longer_at : Position (List Step) S → Position (List Step) S
  longer_at p = record {
    standing = longer behind p.standing;
    own = p.own;
    events = p.events;
    end = end_before behind p.end;
  }

  -- so many turns may follow
  record Waits (k : ℕ) (p : Position (List Step) S) : Type 0 where
    ready : Ready behind (λ core. k) p.standing.programs
    cores : p.standing.machine.config.cores ≡ length behind
    early : 1 ≤ k → end_before behind p.end ≡ p.end

  waits_less : (k : ℕ) (p : Position (List Step) S) → Waits (suc k) p → Waits k p
  waits_less k p waits = record {
    ready = ready_for_less behind (λ core. omega arith) waits.ready;
    cores = waits.cores;
    early = λ some. waits.early (omega arith);
  }

  module _ (k : ℕ) (p : Position (List Step) S) (waits : Waits (suc k) p) where
    kept : Kept behind (λ core. k) (schedule.turn p.own) (begin p.standing)
    kept = keeps_turn p.own k (begin p.standing) waits.ready

    abbrev after : Standing (List Step)
    after = after_actions step_acts (begin p.standing) (turn_at plan p)

    stands : after_actions step_acts (longer behind (begin p.standing)) (turn_at plan (longer_at p))
        ≡ longer behind after
    stands =
        ap (after_actions step_acts (longer behind (begin p.standing))) kept.same
        ∙ leads_alike behind (begin p.standing) (turn_at plan p) kept.alike

    events : p.events ++ events_of step_acts (longer behind (begin p.standing)) (turn_at plan (longer_at p))
        ≡ p.events ++ events_of step_acts (begin p.standing) (turn_at plan p)
    events =
        ap (λ (es : List Event). p.events ++ es)
        (ap (events_of step_acts (longer behind (begin p.standing))) kept.same
        ∙ events_alike behind (begin p.standing) (turn_at plan p) kept.alike)

    cores_after : after.machine.config.cores ≡ length behind
    cores_after =
        ap (λ (m : Machine). m.config.cores) (turn_makes plan p p.standing [] (turn_at plan p) refl)
        ∙ ap (λ c. c.cores) (after_all_same p.standing.machine
        (events_of step_acts (begin p.standing) (turn_at plan p))).config
        ∙ waits.cores

    abbrev end_if : Bool → Bool → End → End
    end_if out still end = cond out Exhausted (cond still Stalled end)

    before_if : (out still : Bool) (end : End) →
        end_if out still (end_before behind end) ≡ end_before behind (end_if out still end)
    before_if true still end = refl
    before_if false true end = refl
    before_if false false end = refl

    abbrev is_still : Bool
    is_still = schedule.stalls && not after.has_progressed

    ends : end_of_turn plan (longer behind after) ≡ end_before behind (end_of_turn plan after)
    ends =
        ap (end_if after.is_out is_still) (end_longer behind after.machine after.programs kept.ready.count cores_after)
        ∙ before_if after.is_out is_still (end_here step_acts after.machine after.programs)

    turn_longer : after_turn plan (longer_at p) ≡ longer_at (after_turn plan p)
    turn_longer = λ i. record {
      standing = stands i;
      own = schedule.next p.own;
      events = events i;
      end = (ap (end_of_turn plan) stands ∙ ends) i;
    }

    turn_waits : Waits k (after_turn plan p)
    turn_waits = record {
      ready = kept.ready;
      cores = cores_after;
      early = λ some. sym (before_if after.is_out is_still (end_here step_acts after.machine after.programs))
          ∙ ap (end_if after.is_out is_still)
          (end_early behind after.machine after.programs kept.ready.count cores_after
          k some kept.ready);
    }

    one_longer : (e : End) →
        (one_more plan e (longer_at p) ≡ longer_at (one_more plan e p)) × Waits k (one_more plan e p)
    one_longer TurnsUsed = (turn_longer, turn_waits)
    one_longer _ = (refl, waits_less k p waits)

  -- after n turns the run of the longer lists stands where that of the lists does
  run_longer : (n k : ℕ) (p : Position (List Step) S) → Waits (n + k) p →
      (run plan n (longer_at p) ≡ longer_at (run plan n p)) × Waits k (run plan n p)
  unfolding run
  run_longer zero k p waits =
      let count : 0 + k ≡ k = omega arith in (refl, subst (λ (turns : ℕ). Waits turns p) count waits)
  run_longer (suc n) k p waits =
      let count : suc n + k ≡ n + suc k = omega arith in
      let before = run_longer n (suc k) p (subst (λ (turns : ℕ). Waits turns p) count waits) in
      let now = run plan n p in
      let one = one_longer k now before.1 now.end in (
        ap (λ (q : Position (List Step) S). one_more plan q.end q) before.0
            ∙ ap (λ (e : End). one_more plan e (longer_at now)) (before.1.early (omega arith)) ∙ one.0,
        one.1,
      )

  module _ (keeps : Bool) (start : Position (List Step) S) (waits : Waits limit start) (made : List Event)
      (s : Standing (List Step)) (e : End) where
    run_is : HasRun (run plan limit start) made s e →
        HasRun (run plan limit (longer_at start)) made (longer behind s) (end_before behind e)
    run_is h =
        let count : limit ≡ limit + 0 = omega arith in
        let same = (run_longer limit 0 start (subst (λ (turns : ℕ). Waits turns start) count waits)).0 in record {
          standing_is = ap (λ (q : Position (List Step) S). q.standing) same ∙ ap (longer behind) h.standing_is;
          events_are = ap (λ (q : Position (List Step) S). q.events) same ∙ h.events_are;
          end_is = ap (λ (q : Position (List Step) S). q.end) same ∙ ap (end_before behind) h.end_is;
        }

    cut_is : IsCut keeps plan start made s e →
        IsCut keeps plan (longer_at start) made (longer behind s) (end_before behind e)
    cut_is cut =
        let left = limit - suc cut.turns in
        let count : limit ≡ cut.turns + suc left = omega (arith, cut.within) in
        let so = run_longer cut.turns (suc left) start (subst (λ (turns : ℕ). Waits turns start) count waits) in
        let now = run plan cut.turns start in
        let turn = kept left now so.1 in
        let front = front_alike behind (begin now.standing) cut.made cut.left
        (subst (AreAlike behind (begin now.standing)) cut.turn_is turn.alike) in record {
          end_is = ap (end_before behind) cut.end_is;
          turns = cut.turns;
          within = cut.within;
          goes_on = ap (λ (q : Position (List Step) S). q.end) so.0 ∙ ap (end_before behind) cut.goes_on;
          made = cut.made;
          left = cut.left;
          turn_is = ap (turn_at plan) so.0 ∙ turn.same ∙ cut.turn_is;
          leads = ap (λ (q : Position (List Step) S). after_actions step_acts (begin q.standing) cut.made) so.0
              ∙ leads_alike behind (begin now.standing) cut.made front ∙ ap (longer behind) cut.leads;
          events_are = cut.events_are
              ∙ sym (ap (λ (q : Position (List Step) S). q.events
              ++ events_of step_acts (begin q.standing) cut.made) so.0
              ∙ ap (λ (es : List Event). now.events ++ es) (events_alike behind (begin now.standing) cut.made front));
          in_time = cut.in_time;
          asks = cut.asks;
        }

  -- so many turns may follow the start of a run
  waits_first : (k : ℕ) (m : Machine) (lists : List (List Step)) (own : S) → length lists ≡ m.config.cores →
      length behind ≡ m.config.cores → IsAhead k lists behind → Waits k (initial_position step_acts m lists own)
  waits_first k m lists own one_each as_many ahead =
      let count : length behind ≡ length lists = as_many ∙ sym one_each in
      let ready : Ready behind (λ core. k) lists = record { ahead = ahead; count = count } in record {
        ready = ready;
        cores = sym as_many;
        early = λ some. end_early behind m lists count (sym as_many) k some ready;
      }

  -- a run isn't all done before lists that are ahead of it are
  all_used : (keeps : Bool) (m after : Machine) (lists left : List (List Step)) (own : S) (made : List Event) (k : ℕ) →
      length lists ≡ m.config.cores → length behind ≡ m.config.cores → IsAhead k lists behind →
      Ended keeps plan (initial_position step_acts m lists own) made after left AllDone →
      end_before behind AllDone ≡ TurnsUsed → k ≤ limit
  all_used keeps m after lists left own made k one_each as_many ahead ended more = elim (cases_lt limit k) [
    | inr within ↦ within
    | inl below ↦
        let rest = k - suc limit in
        let count : k ≡ limit + suc rest = omega (arith, below) in
        let start = initial_position step_acts m lists own in
        let waits = waits_first k m lists own one_each as_many ahead in
        let last = (run_longer limit (suc rest) start (subst (λ (n : ℕ). Waits n start) count waits)).1 in
        let same = subst (λ (e : End). end_before behind e ≡ e) (not_cut ended (λ bad. absurd cc)).end_is
        (last.early (omega arith)) in
        absurd (let z : AllDone ≡ TurnsUsed = sym same ∙ more in cc)
  ]

  pub ended_longer : (keeps : Bool) (m after : Machine) (lists left : List (List Step)) (own : S) (made : List Event)
      (e : End) → length lists ≡ m.config.cores → length behind ≡ m.config.cores → IsAhead limit lists behind →
      Ended keeps plan (initial_position step_acts m lists own) made after left e →
      Ended keeps plan (initial_position step_acts m (joined lists behind) own) made after (joined left behind)
      (end_before behind e)
  ended_longer keeps m after lists left own made e one_each as_many ahead ended =
      subst (λ (q : Position (List Step) S). Ended keeps plan q made after (joined left behind) (end_before behind e))
      same_start (record {
        last = longer behind ended.last;
        machine_is = ended.machine_is;
        programs_are = ap (λ (ls : List (List Step)). joined ls behind) ended.programs_are;
        ends = by_end ended.ends;
      })
    where
      start : Position (List Step) S
      start = initial_position step_acts m lists own

      count : length behind ≡ length lists
      count = as_many ∙ sym one_each

      waits : Waits limit start
      waits = waits_first limit m lists own one_each as_many ahead

      same_start : longer_at start ≡ initial_position step_acts m (joined lists behind) own
      same_start = λ i. record {
        standing = opened m (joined lists behind);
        own = own;
        events = [];
        end = sym (end_longer behind m lists count (sym as_many)) i;
      }

      by_end : HasRun (run plan limit start) made ended.last e ⊎ IsCut keeps plan start made ended.last e →
          HasRun (run plan limit (longer_at start)) made (longer behind ended.last) (end_before behind e)
          ⊎ IsCut keeps plan (longer_at start) made (longer behind ended.last) (end_before behind e)
      by_end (inl h) = inl (run_is keeps start waits made ended.last e h)
      by_end (inr cut) = inr (cut_is keeps start waits made ended.last e cut)

words_kept : (behind : List (List Step)) (generator : Lcg) (k : ℕ) (s : Standing (List Step)) →
    Ready behind (λ core. suc k) s.programs → Kept behind (λ core. k) ((seeded step_acts).turn generator) s
words_kept behind generator k s ready =
    drawn_kept behind k s ready (pcg32 generator).0 (pcg32 (pcg32 generator).1).0

pub steps_behind : (keeps : Bool) (policy : Policy) (turns limit : ℕ) (m after : Machine)
    (lists behind left : List (List Step)) (events : List Event) (end : End) → length lists ≡ m.config.cores →
    length behind ≡ m.config.cores → IsAhead limit lists behind →
    GoesOnBy keeps step_acts policy turns limit m lists events after left end →
    GoesOnBy keeps step_acts policy turns limit m (joined lists behind) events after (joined left behind)
    (end_before behind end)
steps_behind keeps Rounds turns limit m after lists behind left events end =
    ended_longer behind (rounds step_acts) (round_kept behind) limit keeps m after lists left
    (no_round false m.config.cores) events end
steps_behind keeps FairRounds turns limit m after lists behind left events end =
    ended_longer behind (rounds step_acts) (round_kept behind) limit keeps m after lists left
    (no_round true m.config.cores) events end
steps_behind keeps (Seed seed) turns limit m after lists behind left events end =
    ended_longer behind (seeded step_acts) (words_kept behind) limit keeps m after lists left
    (iterate (seeded step_acts).next turns (of_seed seed)) events end

-- lists that are ahead of a piece last as long as it does
module _ {S : Type 0} (behind : List (List Step)) (schedule : Schedule (List Step) S)
    (keeps_turn : (own : S) (k : ℕ) (s : Standing (List Step)) → Ready behind (λ core. suc k) s.programs →
    Kept behind (λ core. k) (schedule.turn own) s) (keeps : Bool) (turns limit : ℕ) (m after : Machine)
    (lists left : List (List Step)) (own : S) (events : List Event) (one_each : length lists ≡ m.config.cores)
    (as_many : length behind ≡ m.config.cores) (ahead : IsAhead limit lists behind) where
  used_by : (end : End) →
      EndedIn turns keeps (plan_of step_acts schedule limit) (initial_position step_acts m lists own) events after left
      end → end_before behind end ≡ TurnsUsed → turns ≡ limit
  used_by TurnsUsed is more = is.used refl
  used_by AllDone is more =
      let enough = all_used behind schedule keeps_turn turns keeps m after lists left own events limit one_each as_many
      ahead is.ended more in omega (arith, is.within, enough)
  used_by _ is more = absurd (cc)

pub lists_used : (keeps : Bool) (pace : Paced) (turns limit : ℕ) (m after : Machine)
    (lists behind left : List (List Step)) (events : List Event) (end : End) → length lists ≡ m.config.cores →
    length behind ≡ m.config.cores → IsAhead limit lists behind →
    GoesOnIn keeps step_acts pace turns limit m lists events after left end → end_before behind end ≡ TurnsUsed →
    turns ≡ limit
lists_used keeps pace turns limit m after lists behind left events end one_each as_many ahead =
    by_policy pace.policy pace.generator
  where
    by_policy : (policy : Policy) (generator : Lcg) →
        GoesOnIn keeps step_acts (record { policy = policy; generator = generator }) turns limit m lists events after
        left end → end_before behind end ≡ TurnsUsed → turns ≡ limit
    by_policy Rounds generator =
        used_by behind (rounds step_acts) (round_kept behind) keeps turns limit m after lists left
        (no_round false m.config.cores) events one_each as_many ahead end
    by_policy FairRounds generator =
        used_by behind (rounds step_acts) (round_kept behind) keeps turns limit m after lists left
        (no_round true m.config.cores) events one_each as_many ahead end
    by_policy (Seed seed) generator =
        used_by behind (seeded step_acts) (words_kept behind) keeps turns limit m after lists left generator events
        one_each as_many ahead end
