-- Whatever the end of a run, each core was issued what its program gave, and the program was told of each record. By
-- rounds a core's time goes on by itself only between operations.
use Rattle.std.proofs.Common.{◌≡◌, ℕ, ◌+◌, ◌<◌, ◌==◌, Bool, false, List, [], ◌∷◌, ◌++◌, length}
use Rattle.std.proofs.Common.{map, get_or, Option, Some, None, refl, sym, ap, ◌∙◌, subst, arith}
use Rattle.std.proofs.Common.{append-nil, append_assoc, inl, inr, if◌then◌else◌}
use Rattle.std.specs.Prelude.{slice_get, option_map}
use Rattle.std.proofs.lemmas.Bool.{cond_both, true≢false}
use Rattle.std.proofs.lemmas.Option.{slice_get_within}
use Rattle.std.proofs.lemmas.List.{length-map, map-append}
use Rattle.std.proofs.lemmas.List.Elements.{filter-append}
use Rattle.physiological_order.specs.declared.operation.Op.{Op}
use Rattle.physiological_order.specs.declared.operation.Record.{Record}
use Rattle.physiological_order.specs.Order.{Follows as Stand, of_core}
use Rattle.core_pts.specs.CoreTable.{CoreState}
use Rattle.machine_table.specs.declared.event.Event.{Event}
use Rattle.machine_table.specs.declared.event.Event.TheVariants.{Issue, Attempt, Deliver, EvictCache, EvictBank}
use Rattle.machine_table.specs.declared.event.Event.TheVariants.{Advance}
use Rattle.machine_table.specs.declared.event.Answer.{Answer}
use Rattle.machine_table.specs.declared.event.Answer.TheVariants as answer
use Rattle.machine_table.specs.Machine.{Machine, operation_of, open_op, open_op_of}
use Rattle.machine_table.specs.Runs.{after_all}
use Rattle.machine_table.specs.Transition.{transition}
use Rattle.protocol.specs.Issued.{IsIssued, listed}
use Rattle.machine_theorem.specs.Replies.{AdvancesBetween, IsBetween}
use Rattle.machine_theorem.proofs.Lemmas.{after_all_same}
use Rattle.programs.specs.declared.ends.End.{End}
use Rattle.programs.specs.declared.steps.Step.TheVariants as step
use Rattle.programs.specs.Acts.{Acts, done_in, next_in}
use Rattle.schedules.specs.Parts.{Action, Does, Advances, Lists, Standing, after_action, after_actions, after_answer}
use Rattle.schedules.specs.Parts.{events_of, events_of_one, programs_told, told_advance, is_advanced}
use Rattle.schedules.specs.RoundSchedule.{Round, rounds}
use Rattle.schedules.specs.Runs.{Plan, begin, initial_position, plan_of, Ended}
use Rattle.machine_theorem.specs.Service.{AreServed}
use Rattle.schedules.specs.GivenSteps.{GivesSteps, AreGiven, IsGiven}
use Rattle.schedules.proofs.TableSteps.{op_at, IsQuiet, is_completion}
use Rattle.schedules.proofs.TableSteps.{not_completed, issue_does, attempt_does, advance_stays, delivery_stays}
use Rattle.schedules.proofs.TableSteps.{cache_eviction_stays, bank_eviction_stays}
use Rattle.schedules.proofs.ServiceSteps.{Serving, served_none, served_quiet, served_issue, served_done}
use Rattle.schedules.proofs.ServiceSteps.{served_advance}
use Rattle.schedules.proofs.RoundSteps.{rounds_give_steps}
use Rattle.schedules.proofs.RunLaws.{all_kept, one_makes, turn_makes}

-- behind the first of the records
pub behind : (rs more : List Record) (k : ℕ) (ops : List Op) → Stand k ops (rs ++ more) →
    Stand (k + length rs) ops more
behind [] more k ops follows =
    let here : k ≡ k + 0 = omega arith in
    subst (λ (n : ℕ). Stand n ops more) here follows
behind (r ∷ rs) more k ops follows =
    let count : k + 1 + length rs ≡ k + length (r ∷ rs) = omega arith in
    subst (λ (n : ℕ). Stand n ops more) count (behind rs more (k + 1) ops follows.2)

-- a core that isn't there has no open operation
has_core : (cores : List CoreState) (c : ℕ) (o : Option CoreState) (op : Op) → slice_get cores c ≡ o →
    operation_of o ≡ Some op → c < length cores
has_core cores c None op at is = absurd (cc)
has_core cores c (Some core) op at is = slice_get_within cores c core at

-- no open operation, with and without whether its request is out
pub none_open : (m : Machine) (core : ℕ) → open_op m core ≡ None → op_at m core ≡ None
none_open m core none = by_core (slice_get m.cores core) none
  where
    by_op : (out : Bool) (o : Option Op) → option_map {U = Op × Bool} (λ op. (op, out)) o ≡ None → o ≡ None
    by_op out None none = refl
    by_op out (Some op) none = absurd (cc)

    by_core : (o : Option CoreState) → open_op_of o ≡ None → operation_of o ≡ None
    by_core None none = refl
    by_core (Some state) none = by_op state.is_out state.open_op none

-- each core of a machine was issued the operations of its records, and the open one
abbrev pub Issues : Machine → Type 0
Issues m = (core : ℕ) → IsIssued (get_or m.issued core []) (of_core core m.records) (op_at m core)

-- between two such machines, if nothing was open at the first
module _ (m after : Machine) (s : Issues m) (t : Issues after) (added : List Record) (more : after.records ≡ m.records
    ++ added) (core : ℕ) (none : op_at m core ≡ None) where
  parts : of_core core after.records ≡ of_core core m.records ++ of_core core added
  parts = ap (of_core core) more ∙ filter-append (λ (r : Record). r.core == core) m.records added

  first : get_or m.issued core [] ≡ map (λ r. r.op) (of_core core m.records)
  first = (s core).all ∙ ap (λ (o : Option Op). map (λ r. r.op) (of_core core m.records) ++ listed o) none
      ∙ append-nil (map (λ r. r.op) (of_core core m.records))

  issued_more : get_or after.issued core [] ≡ get_or m.issued core [] ++ (map (λ r. r.op) (of_core core added)
      ++ listed (op_at after core))
  issued_more =
      (t core).all
      ∙ ap (λ (rs : List Record). map (λ r. r.op) rs ++ listed (op_at after core)) parts
      ∙ ap (λ (os : List Op). os ++ listed (op_at after core)) (map-append (λ (r : Record). r.op)
      (of_core core m.records) (of_core core added))
      ∙ append_assoc (map (λ r. r.op) (of_core core m.records)) (map (λ r. r.op) (of_core core added))
      (listed (op_at after core))
      ∙ ap (λ (os : List Op). os ++ (map (λ r. r.op) (of_core core added) ++ listed (op_at after core))) (sym first)

  added_in_order : Stand (length (get_or m.issued core [])) (get_or after.issued core []) (of_core core added)
  added_in_order =
      let count : 0 + length (of_core core m.records) ≡ length (get_or m.issued core []) =
      omega (arith, ap length first, length-map {B = Op} (of_core core m.records) (λ (r : Record). r.op)) in
      subst (λ (n : ℕ). Stand n (get_or after.issued core []) (of_core core added)) count
      (behind (of_core core m.records) (of_core core added) 0 (get_or after.issued core [])
      (subst (Stand 0 (get_or after.issued core [])) parts (t core).in_order))

-- a program is told of completions alone
pub untold : {P : Type 0} (acts : Acts P) (programs : List P) (a : Answer) → is_completion a ≡ false →
    programs_told acts programs a ≡ programs
untold acts programs (answer.Completed done) silent = absurd (true≢false silent)
untold acts programs _ silent = refl

module _ {P : Type 0} (acts : Acts P) (start : Machine) (opening : List P) where
  record Kept (s : Standing P) : Type 0 where
    serving : Serving acts start opening s.machine s.programs
    count : length s.machine.cores ≡ start.config.cores

  -- an answered event leads to where it is so again
  answered : (s : Standing P) (tells : Answer → List P) (event : Event) → Kept s →
      Serving acts start opening (transition s.machine event).1 (tells (transition s.machine event).0) →
      Kept (if s.is_out then s else after_answer s tells (transition s.machine event))
  answered s tells event so on =
      cond_both s.is_out s (after_answer s tells (transition s.machine event)) Kept (λ out. so)
      (λ more. record { serving = on; count = (after_all_same s.machine (event ∷ [])).cores ∙ so.count })

  module _ (s : Standing P) (so : Kept s) where
    abbrev Told : Event → Type 0
    Told event = Serving acts start opening (transition s.machine event).1
        (programs_told acts s.programs (transition s.machine event).0)

    -- nothing is opened or completed, and no program told
    quietly : (event : Event) → IsQuiet s.machine (transition s.machine event).1 → Told event
    quietly event quiet =
        rw (untold acts s.programs (transition s.machine event).0 (not_completed s.machine event quiet.records))
        (served_quiet acts start opening s.machine (transition s.machine event).1 s.programs so.serving quiet)

    issued : (core : ℕ) (op : Op) → next_in acts s.programs core ≡ Some (step.Op op) → Told (Issue core op)
    issued core op next = elim (issue_does s.machine core op) [
      | inl quiet ↦ quietly (Issue core op) quiet
      | inr opens ↦
          rw (untold acts s.programs (transition s.machine (Issue core op)).0
          (not_completed s.machine (Issue core op) opens.records))
          (served_issue acts start opening s.machine (transition s.machine (Issue core op)).1 s.programs so.serving core
          op next opens)
    ]

    -- a completion is told
    attempted : (core : ℕ) → Told (Attempt core)
    attempted core = elim (attempt_does s.machine core) [
      | inl silent ↦
          rw (untold acts s.programs (transition s.machine (Attempt core)).0 silent.0)
          (served_quiet acts start opening s.machine (transition s.machine (Attempt core)).1 s.programs so.serving
          silent.1)
      | inr ends ↦
          let below : core < start.config.cores = subst (λ (n : ℕ). core < n) so.count
          (has_core s.machine.cores core (slice_get s.machine.cores core) ends.0.op refl ends.2.op) in
          rw (ends.1, ends.2.core)
          (served_done acts start opening s.machine (transition s.machine (Attempt core)).1 s.programs so.serving core
          ends.0 below ends.2)
    ]

    -- a program goes on after its advance
    advanced : (core : ℕ) → open_op s.machine core ≡ None → next_in acts s.programs core ≡ Some step.Advance →
        Serving acts start opening (transition s.machine (Advance core)).1
        (told_advance acts s.programs core (transition s.machine (Advance core)).0)
    advanced core free next =
        let o = transition s.machine (Advance core) in
        let quiet = advance_stays s.machine core in
        cond_both (is_advanced o.0) (done_in acts s.programs core None) s.programs
        (λ (ps : List P). Serving acts start opening o.1 ps)
        (λ t. served_advance acts start opening s.machine o.1 s.programs so.serving core
        (none_open s.machine core free) next quiet)
        (λ t. served_quiet acts start opening s.machine o.1 s.programs so.serving quiet)

    told : (event : Event) → IsGiven acts (Unit {0}) s (Does event) → Told event
    told (Issue core op) given = issued core op given.1
    told (Attempt core) given = attempted core
    told (Deliver number) given = quietly (Deliver number) (delivery_stays s.machine number)
    told (EvictCache core line) given = quietly (EvictCache core line) (cache_eviction_stays s.machine core line)
    told (EvictBank bank line) given = quietly (EvictBank bank line) (bank_eviction_stays s.machine bank line)
    told (Advance core) given = quietly (Advance core) (advance_stays s.machine core)

  one_kept : (s : Standing P) (action : Action) → IsGiven acts (Unit {0}) s action → Kept s →
      Kept (after_action acts s action)
  one_kept s Lists given so = so
  one_kept s (Advances core) given so =
      answered s (told_advance acts s.programs core) (Advance core) so (advanced s so core given.0 given.1)
  one_kept s (Does event) given so = answered s (programs_told acts s.programs) event so (told s so event given)

  -- the front of a turn whose steps are given
  front_kept : (s : Standing P) (made left : List Action) → AreGiven acts (Unit {0}) s (made ++ left) → Kept s →
      Kept (after_actions acts s made)
  front_kept s [] left given so = so
  front_kept s (action ∷ made) left given so =
      front_kept (after_action acts s action) made left given.1 (one_kept s action given.0 so)

module _ {P S : Type 0} (plan : Plan P S) (gives : GivesSteps plan.acts plan.schedule) (start : Machine)
    (opening : List P) (own : S) where
  pub all_served : length start.cores ≡ start.config.cores → Issues start → (events : List Event) (m : Machine)
      (programs : List P) (e : End) → Issues m → {keeps : Bool} →
      Ended keeps plan (initial_position plan.acts start opening own) events m programs e →
      AreServed plan.acts start m opening programs
  all_served count issued events m programs e issued_after ended =
      let last = all_kept plan (initial_position plan.acts start opening own)
      (λ s events. Kept plan.acts start opening s)
      (record { serving = served_none plan.acts start opening; count = count })
      (λ own s events made left so is. front_kept plan.acts start opening (begin s) made left
      (subst (AreGiven plan.acts (Unit {0}) (begin s)) is (gives own (begin s)))
      (record { serving = so.serving; count = so.count })) ended in
      let kept : Serving plan.acts start opening m programs =
      rw (ended.machine_is, ended.programs_are) at last.serving in
      record {
        added = kept.added;
        records = kept.records;
        there = kept.there;
        each = λ core below none.
            let closed = none_open start core none in
            record {
              issued = issued_more start m issued issued_after kept.added kept.records core closed;
              in_order = added_in_order start m issued issued_after kept.added kept.records core closed;
              told = kept.told core closed;
            };
      }

-- lists of events in which a core advances only between operations
both_between : (m : Machine) (xs ys : List Event) → AdvancesBetween m xs → AdvancesBetween (after_all m xs) ys →
    AdvancesBetween m (xs ++ ys)
both_between m [] ys front back = back
both_between m (x ∷ xs) ys front back = (front.0, both_between (transition m x).1 xs ys front.1 back)

module _ {P : Type 0} (acts : Acts P) where
  event_between : (s : Standing P) (e : Event) → IsBetween s.machine e →
      AdvancesBetween s.machine (if s.is_out then [] else e ∷ [])
  event_between s e is = cond_both s.is_out [] (e ∷ []) (AdvancesBetween s.machine) (λ out. tt) (λ more. (is, tt))

  one_between : (s : Standing P) (action : Action) → IsGiven acts ⊥ s action →
      AdvancesBetween s.machine (events_of_one acts s action)
  one_between s Lists given = tt
  one_between s (Advances core) given = event_between s (Advance core) (none_open s.machine core given.0)
  one_between s (Does (Advance core)) given = absurd given
  one_between s (Does e) given = event_between s e tt

  front_between : (s : Standing P) (made left : List Action) → AreGiven acts ⊥ s (made ++ left) →
      AdvancesBetween s.machine (events_of acts s made)
  front_between s [] left given = tt
  front_between s (x ∷ xs) left given =
      both_between s.machine (events_of_one acts s x) (events_of acts (after_action acts s x) xs)
      (one_between s x given.0) (rw (one_makes acts s x) (front_between (after_action acts s x) xs left given.1))

  pub rounds_between : (limit : ℕ) (round : Round) (start m : Machine) (opening programs : List P)
      (events : List Event) (e : End) {keeps : Bool} →
      Ended keeps (plan_of acts (rounds acts) limit) (initial_position acts start opening round) events m programs e →
      AdvancesBetween start events
  rounds_between limit round start m opening programs events e ended =
      let plan = plan_of acts (rounds acts) limit in
      let first = initial_position acts start opening round in
      (all_kept plan first (λ s made. (s.machine ≡ after_all start made) × AdvancesBetween start made) (refl, tt)
      (λ own s before made left so is. (
        turn_makes plan first s before made so.0,
        both_between start before (events_of acts (begin s) made) so.1 (rw (← so.0)
            (front_between (begin s) made left
            (subst (AreGiven acts ⊥ (begin s)) is (rounds_give_steps acts ⊥ own (begin s))))),
      )) ended).1
