-- A run goes on as that of the whole text does, while its steps are read.
use Rattle.std.proofs.Common.{◌≡◌, ◌≢◌, ◌⊎◌, ℕ, ◌+◌, ◌-◌, ◌^◌, ◌<◌, ◌≤◌, Bool, true, false, List, [], ◌∷◌, ◌++◌}
use Rattle.std.proofs.Common.{length, get_or, inl, inr, refl, sym, ap, ap₂, ◌∙◌, ◌↔◌, subst, arith, append-nil}
use Rattle.std.proofs.Common.{not, replicate}
use Rattle.std.proofs.lemmas.Bool.{cases_lt}
use Rattle.std.proofs.lemmas.List.{get_or_past, length-replicate}
use Rattle.std.specs.FinMap.{empty}
use Rattle.physiological_order.specs.declared.operation.Record.{Record}
use Rattle.physiological_order.specs.StaleHits.{RisesByNumber}
use Rattle.machine_table.specs.declared.config.Config.{Config}
use Rattle.machine_table.specs.declared.event.Event.{Event}
use Rattle.machine_table.specs.Machine.{Machine}
use Rattle.machine_table.specs.Opening.{at_start}
use Rattle.machine_table.specs.Runs.{after_all}
use Rattle.machine_table.specs.Transition.{transition}
use Rattle.machine_table.specs.SetUp.{is_good}
use Rattle.programs.specs.declared.ends.End.{End}
use Rattle.programs.specs.declared.ends.End.TheVariants.{AllDone, Stalled, TurnsUsed, Exhausted, NoMemory}
use Rattle.programs.specs.declared.steps.Step.{Step}
use Rattle.programs.specs.declared.steps.Step.TheVariants.{Advance}
use Rattle.schedules.specs.declared.policy.Policy.{Policy}
use Rattle.schedules.specs.LongerLists.{GoesOnBy, IsAhead, end_before, joined, step_acts}
use Rattle.schedules.specs.Paces.{GoesOnFrom, GoesOnIn, Paced, gone, paced}
use Rattle.schedules.specs.Policies.{EndsBy}
use Rattle.trace_reader.specs.Filling.{AheadState, HasTaken, unnumbered}
use Rattle.trace_reader.specs.Steps.{cores_of, lane, named}
use Rattle.trace_reader.proofs.Lemmas.{cores-append, named-append}
use Rattle.streamed_runs.specs.declared.summary.Summary.{Summary}
use Rattle.streamed_runs.specs.Pieces.{IsPiece}
use Rattle.streamed_runs.specs.StreamStates.{IsGoing, MayFollow, StreamState, end_with, lanes_for, turns_left}
use Rattle.streamed_runs.specs.Summaries.{all_counted, summary_of}
use Rattle.streamed_runs.proofs.CountedRecords.{counted_all}
use Rattle.streamed_runs.proofs.JoinedLanes.{ends_later, ends_now, lane_joined, lanes_count, lanes_joined}
use Rattle.streamed_runs.proofs.JoinedLanes.{length_joined, no_steps, nothing_in, queues_joined}
use Rattle.streamed_runs.proofs.MadePieces.{some_core}

-- what is cited of the laws of schedules, `lists_are_filled_between_turns` (joins, fills), `runs_go_on` (begins,
-- further) and `pieces_go_by_turns` (turns, sum, used)
pub record Laws : Type 0 where
  pub joins : (lists moved behind : List (List Step)) →
      joined (joined lists moved) behind ≡ joined lists (joined moved behind)
  pub fills : (keeps : Bool) (policy : Policy) (turns limit : ℕ) (m between after : Machine)
      (whole lists behind left : List (List Step)) (events more : List Event) (end : End) →
      length lists ≡ between.config.cores → length behind ≡ between.config.cores → IsAhead limit lists behind →
      EndsBy keeps step_acts policy turns m whole events between (joined lists behind) TurnsUsed →
      GoesOnBy keeps step_acts policy turns limit between lists more after left end →
      EndsBy keeps step_acts policy (turns + limit) m whole (events ++ more) after (joined left behind)
      (end_before behind end)
  pub begins : (keeps : Bool) (policy : Policy) (limit : ℕ) (m after : Machine) (programs left : List (List Step))
      (events : List Event) (end : End) → GoesOnBy keeps step_acts policy 0 limit m programs events after left end
      ↔ EndsBy keeps step_acts policy limit m programs events after left end
  pub further : (keeps : Bool) (policy : Policy) (made limit more : ℕ) (m after : Machine)
      (programs left : List (List Step)) (events : List Event) (end : End) →
      GoesOnBy keeps step_acts policy made limit m programs events after left end → end ≢ TurnsUsed → limit ≤ more →
      GoesOnBy keeps step_acts policy made more m programs events after left end
  pub turns : (keeps : Bool) (pace : Paced) (turns limit : ℕ) (m after : Machine) (programs left : List (List Step))
      (events : List Event) (end : End) →
      GoesOnIn keeps step_acts pace turns limit m programs events after left end → (turns ≤ limit)
      × (end ≡ TurnsUsed → turns ≡ limit)
      × GoesOnFrom keeps step_acts pace turns m programs events after left end
      × GoesOnFrom keeps step_acts pace limit m programs events after left end
  pub sum : (policy : Policy) (made turns : ℕ) → gone turns (paced policy made) ≡ paced policy (made + turns)
  pub used : (keeps : Bool) (pace : Paced) (turns limit : ℕ) (m after : Machine) (lists behind left : List (List Step))
      (events : List Event) (end : End) → length lists ≡ m.config.cores → length behind ≡ m.config.cores →
      IsAhead limit lists behind → GoesOnIn keeps step_acts pace turns limit m lists events after left end →
      end_before behind end ≡ TurnsUsed → turns ≡ limit

-- a run that is over is one of any more turns
with_more_turns : (laws : Laws) (policy : Policy) (limit more : ℕ) (m after : Machine) (queues left : List (List Step))
    (events : List Event) (end : End) → end ≢ TurnsUsed → limit ≤ more →
    EndsBy true step_acts policy limit m queues events after left end →
    EndsBy true step_acts policy more m queues events after left end
with_more_turns laws policy limit more m after queues left events end other within ended =
    (laws.begins true policy more m after queues left events end).0
    (laws.further true policy 0 limit more m after queues left events end
    ((laws.begins true policy limit m after queues left events end).1 ended) other within)

all_both : (m : Machine) (events more : List Event) → after_all m (events ++ more) ≡ after_all (after_all m events) more
all_both m [] more = refl
all_both m (event ∷ events) more = all_both (transition m event).1 events more

-- what IsGoing says of the events that were made, with `left` turns left of a limit, over so many lanes
abbrev Stands : Config → Policy → ℕ → Bool → List (ℕ × Step) → List Event → Machine → List (List Step) → End → Type 0
Stands config policy turns at_end told events machine queues end =
    (more : List (List Step)) → length more ≡ config.cores → MayFollow at_end more →
    EndsBy true step_acts policy turns (at_start config empty) (joined (lanes_for config.cores told) more) events
    machine
    (joined queues more) (end_before more end)

-- what was met and named in all steps that were read, kept in queues or not
module _ (keeps : Bool) (taken more : List (ℕ × (ℕ × Step))) (old new : AheadState) (filled : HasTaken keeps old new
    more)
  where
    pub met_all : old.met ≡ cores_of (unnumbered taken) → new.met ≡ cores_of (unnumbered (taken ++ more))
    met_all met = let sum = cores-append taken more in let next = filled.met in omega (arith, sum, met, next)

    pub words_all : old.words ≡ named old.names empty (unnumbered taken) →
        new.words ≡ named new.names empty (unnumbered (taken ++ more))
    words_all words =
        filled.words ∙ ap (λ (words : _). named old.names words (unnumbered more)) words
        ∙ sym (named-append old.names empty taken more)
        ∙ ap (λ (names : Bool). named names empty (unnumbered (taken ++ more))) (sym filled.names)

-- a run that is over, but for its records of the last piece
pub stays_over : (taken : List (ℕ × (ℕ × Step))) (s : StreamState) → IsGoing taken s → (done : List Record) →
    IsGoing (taken ++ []) (record s { done = done })
stays_over taken s going done =
    subst (λ (all : List (ℕ × (ℕ × Step))). IsGoing all (record s { done = done })) (sym (append-nil taken)) (record {
      events = going.events;
      leads = going.leads;
      ended = going.ended;
      within = going.within;
      goes = going.goes;
      idle = going.idle;
      few = going.few;
      met = going.met;
      words = going.words;
      rising = going.rising;
      kinds = going.kinds;
      stale = going.stale;
      latest = going.latest;
      good = going.good;
    })

-- steps were read ahead of a run that isn't over
module _ (laws : Laws) (taken more : List (ℕ × (ℕ × Step))) (s : StreamState) (going : IsGoing taken s) (on : 0 <
    s.left)
    (one_each : length s.ahead.queues ≡ s.machine.config.cores) (ahead : AheadState)
    (filled : HasTaken true s.ahead ahead more) (at_end : Bool)
    (nothing : s.at_end ≡ true → (more ≡ []) × (at_end ≡ true)) where
  abbrev cores : ℕ
  cores = s.machine.config.cores

  -- the steps that were read, by core
  abbrev fresh : List (List Step)
  fresh = lanes_for cores (unnumbered more)

  abbrev told : List (ℕ × Step)
  told = unnumbered (taken ++ more)

  abbrev made : ℕ
  made = s.limit - s.left

  isn't_over : (((s.at_end ≡ false) × (s.end ≡ AllDone)) ⊎ (s.end ≡ TurnsUsed)) × (s.pace ≡ paced s.pace.policy made)
  isn't_over = elim going.goes [ inl none ↦ absurd (omega (arith, none, on)) | inr goes ↦ goes ]

  as_many : length ahead.queues ≡ cores
  as_many = filled.queued.0 ∙ one_each

  fresh_count : (later : List (List Step)) → length later ≡ cores → length later ≡ length fresh
  fresh_count later many = many ∙ sym (lanes_count cores (unnumbered more))

  -- what may follow behind what was read
  both_follow : (later : List (List Step)) → length later ≡ cores → MayFollow at_end later → (b : Bool) → s.at_end ≡ b →
      MayFollow b (joined fresh later)
  both_follow later many follows false is = tt
  both_follow later many follows true is = λ core.
      let read = nothing is in
      lane_joined fresh later core (fresh_count later many)
      ∙ ap₂ (λ (xs ys : List Step). xs ++ ys)
      (ap (λ (told : List (ℕ × (ℕ × Step))). lane (lanes_for cores (unnumbered told)) core) read.0
      ∙ ap (λ (lanes : List (List Step)). lane lanes core) (no_steps cores) ∙ nothing_in cores core)
      (subst (λ (b : Bool). MayFollow b later) read.1 follows core)

  -- the same run, with what was read where it stands now
  same_run : (later : List (List Step)) → length later ≡ cores → MayFollow at_end later →
      EndsBy true step_acts s.pace.policy made (at_start s.machine.config empty) (joined (lanes_for cores told) later)
      going.events s.machine (joined ahead.queues later) (end_before (joined fresh later) s.end)
  same_run later many follows =
      let old = lanes_for cores (unnumbered taken) in
      let all = sym (laws.joins old fresh later)
      ∙ ap (λ (lanes : List (List Step)). joined lanes later) (sym (lanes_joined cores taken more)) in
      let queues = sym (laws.joins s.ahead.queues fresh later)
      ∙ ap (λ (lanes : List (List Step)). joined lanes later)
      (sym (queues_joined cores s.ahead.queues ahead.queues more one_each filled.queued)) in
      subst (λ (lanes : List (List Step)). EndsBy true step_acts s.pace.policy made (at_start s.machine.config empty)
      lanes going.events s.machine (joined ahead.queues later) (end_before (joined fresh later) s.end)) all
      (subst (λ (lanes : List (List Step)). EndsBy true step_acts s.pace.policy made (at_start s.machine.config empty)
      (joined old (joined fresh later)) going.events s.machine lanes (end_before (joined fresh later) s.end)) queues
      (going.ended (joined fresh later)
      (length_joined fresh later (fresh_count later many) ∙ lanes_count cores (unnumbered more))
      (both_follow later many follows s.at_end refl)))

  -- where the queues were empty, they have what was read
  fresh_lane : s.end ≡ AllDone → (core : ℕ) → lane ahead.queues core ≡ lane fresh core
  fresh_lane done core =
      ap (λ (lanes : List (List Step)). lane lanes core)
      (queues_joined cores s.ahead.queues ahead.queues more one_each filled.queued)
      ∙ lane_joined s.ahead.queues fresh core (lanes_count cores (unnumbered more) ∙ sym one_each)
      ∙ ap (λ (steps : List Step). steps ++ lane fresh core) (going.idle done core)

  met : ahead.met ≡ cores_of told
  met = met_all true taken more s.ahead ahead filled going.met

  words : ahead.words ≡ named ahead.names empty told
  words = words_all true taken more s.ahead ahead filled going.words

  no_more : cores_of told ≤ cores
  no_more =
      let sum = cores-append taken more in let old = going.few in let new = filled.few in
      omega (arith, sum, old, new, one_each)

  not_used : AllDone ≢ TurnsUsed
  not_used is = absurd cc

  -- ---- all is done, and nothing more is to come

  module _ (whole : at_end ≡ true) (done : s.end ≡ AllDone) (none : (core : ℕ) → lane ahead.queues core ≡ []) where
    last_stands : Stands s.machine.config s.pace.policy (s.limit - 0) at_end told going.events s.machine ahead.queues
        s.end
    last_stands later many follows =
        let nothing = subst (λ (b : Bool). MayFollow b later) whole follows in
        let now = ends_now later nothing in
        let both = ends_now (joined fresh later)
        (λ core. lane_joined fresh later core (fresh_count later many)
        ∙ ap₂ (λ (xs ys : List Step). xs ++ ys) (sym (fresh_lane done core) ∙ none core) (nothing core)) in
        let end = ap (λ (e : End). end_before (joined fresh later) e) done ∙ both ∙ sym now
        ∙ ap (λ (e : End). end_before later e) (sym done) in
        with_more_turns laws s.pace.policy made (s.limit - 0) _ _ _ _ _ _
        (λ used. not_used (sym (ap (λ (e : End). end_before later e) done ∙ now) ∙ used))
        (omega arith)
        (subst (λ (e : End). EndsBy true step_acts s.pace.policy made (at_start s.machine.config empty)
        (joined (lanes_for cores told) later) going.events s.machine (joined ahead.queues later) e) end
        (same_run later many follows))

    pub all_is_done : (records : List Record) →
        IsGoing (taken ++ more) (record s { ahead = ahead; at_end = at_end; left = 0; done = records })
    all_is_done records = record {
      events = going.events;
      leads = going.leads;
      ended = last_stands;
      within = omega arith;
      goes = inl refl;
      idle = λ is. none;
      few = no_more;
      met = met;
      words = words;
      rising = going.rising;
      kinds = going.kinds;
      stale = going.stale;
      latest = going.latest;
      good = going.good;
    }

  -- ---- a piece is made of what was read

  module _ (turns : ℕ) (within : turns ≤ s.left)
      (some : s.end ≡ AllDone → (core : ℕ) × (lane ahead.queues core ≢ []))
      (enough : at_end ≡ false → (core : ℕ) → core < cores → turns ≤ length (lane ahead.queues core))
      (next : Paced) (after : Machine) (queues : List (List Step)) (end : End) (done : List Record)
      (piece : IsPiece turns s.pace s.machine ahead.queues next after queues end done) where
    used : (later : List (List Step)) → length later ≡ cores → end_before (joined fresh later) s.end ≡ TurnsUsed
    used later many = elim isn't_over.0 [
      | inl all ↦ let found = some all.1 in
          ap (λ (e : End). end_before (joined fresh later) e) all.1
          ∙ ends_later (joined fresh later) found.0
          (λ none. found.1 (fresh_lane all.1 found.0
          ∙ front_empty _ _ (sym (lane_joined fresh later found.0 (fresh_count later many)) ∙ none)))
      | inr so ↦ ap (λ (e : End). end_before (joined fresh later) e) so
    ]
      where
        front_empty : (xs ys : List Step) → xs ++ ys ≡ [] → xs ≡ []
        front_empty [] ys e = refl
        front_empty (x ∷ xs) ys e = absurd cc

    is_ahead : (later : List (List Step)) → length later ≡ cores → MayFollow at_end later →
        IsAhead turns ahead.queues later
    is_ahead later many follows core = elim (cases_lt core cores) [
      | inl below ↦ by_end at_end refl below
      | inr other ↦ inl (get_or_past later core [] (omega (arith, many, other)))
    ]
      where
        by_end : (b : Bool) → at_end ≡ b → core < cores →
            (get_or later core [] ≡ []) ⊎ (turns ≤ length (get_or ahead.queues core []))
        by_end true is below = inl (subst (λ (b : Bool). MayFollow b later) is follows core)
        by_end false is below = inr (enough is core below)

    piece_stands : Stands s.machine.config s.pace.policy (made + turns) at_end told (going.events ++ piece.events) after
        queues end
    piece_stands later many follows =
        laws.fills true s.pace.policy made turns (at_start s.machine.config empty) s.machine after
        (joined (lanes_for cores told) later) ahead.queues later queues going.events piece.events end as_many many
        (is_ahead later many follows)
        (subst (λ (e : End). EndsBy true step_acts s.pace.policy made (at_start s.machine.config empty)
        (joined (lanes_for cores told) later) going.events s.machine (joined ahead.queues later) e)
        (used later many) (same_run later many follows))
        (subst (λ (pace : Paced). GoesOnFrom true step_acts pace turns s.machine ahead.queues piece.events after queues
        end) isn't_over.1
        (laws.turns true s.pace piece.begun turns s.machine after ahead.queues queues piece.events end piece.ended).3)

    -- the turns that are left: none where the run is over
    abbrev left_with : Bool → End → ℕ
    left_with b e = turns_left s.left turns (end_with e (not b))

    abbrev left : ℕ
    left = left_with at_end end

    counted : (b : Bool) (e : End) → (left_with b e ≡ s.left - turns) ⊎ ((left_with b e ≡ 0)
        × ((later : List (List Step)) → MayFollow b later → end_before later e ≢ TurnsUsed))
    counted b TurnsUsed = inl refl
    counted false AllDone = inl refl
    counted true AllDone = inr (refl, λ later follows used. not_used (sym (ends_now later follows) ∙ used))
    counted b Stalled = inr (refl, λ later follows used. absurd cc)
    counted b Exhausted = inr (refl, λ later follows used. absurd cc)
    counted b NoMemory = inr (refl, λ later follows used. absurd cc)

    -- Where more is to come, the piece began as many turns as it might, whatever that is: a step of the first core.
    abbrev one_behind : List (List Step)
    one_behind = (Advance ∷ []) ∷ replicate (cores - 1) []

    one_in_each : length one_behind ≡ cores
    one_in_each =
        let rest = length-replicate {A = List Step} (cores - 1) [] in let some = some_core s.machine.config going.good
        in
        omega (arith, rest, some)

    goes_behind : piece.begun ≡ turns → gone piece.begun s.pace ≡ paced s.pace.policy (s.limit - (s.left - turns))
    goes_behind all =
        let under = going.within in
        ap₂ gone all isn't_over.1 ∙ laws.sum s.pace.policy made turns
        ∙ ap (paced s.pace.policy) (omega (arith, within, under))

    begun_all : at_end ≡ false → end_before one_behind end ≡ TurnsUsed → piece.begun ≡ turns
    begun_all more is =
        laws.used true s.pace piece.begun turns s.machine after ahead.queues one_behind queues piece.events end as_many
        one_in_each (is_ahead one_behind one_in_each (subst (λ (b : Bool). MayFollow b one_behind) (sym more) tt))
        piece.ended is

    goes : (b : Bool) → at_end ≡ b → (e : End) → end ≡ e →
        (left_with b e ≡ 0) ⊎ ((((at_end ≡ false) × (e ≡ AllDone)) ⊎ (e ≡ TurnsUsed))
        × (gone piece.begun s.pace ≡ paced s.pace.policy (s.limit - left_with b e)))
    goes b is TurnsUsed done = inr (
      inr refl,
      goes_behind ((laws.turns true s.pace piece.begun turns s.machine after ahead.queues queues piece.events end
          piece.ended).1 done),
    )
    goes false is AllDone done = inr (
      inl (is, refl),
      goes_behind (begun_all is (ap (end_before one_behind) done ∙ ends_later one_behind 0 (λ none. absurd cc))),
    )
    goes true is AllDone done = inl refl
    goes b is Stalled done = inl refl
    goes b is Exhausted done = inl refl
    goes b is NoMemory done = inl refl

    left_stands : Stands s.machine.config s.pace.policy (s.limit - left) at_end told (going.events ++ piece.events)
        after
        queues end
    left_stands later many follows = elim (counted at_end end) [
      | inl rest ↦ let under = going.within in
          let turns_made : made + turns ≡ s.limit - left = omega (arith, rest, within, under) in
          subst (λ (n : ℕ). EndsBy true step_acts s.pace.policy n (at_start s.machine.config empty)
          (joined (lanes_for cores told) later) (going.events ++ piece.events) after (joined queues later)
          (end_before later end)) turns_made (piece_stands later many follows)
      | inr over ↦ let none = over.0 in let under = going.within in
          with_more_turns laws s.pace.policy (made + turns) (s.limit - left) _ _ _ _ _ _
          (over.1 later follows) (omega (arith, none, within, under))
          (piece_stands later many follows)
    ]

    module _ (summary : Summary)
        (sums : summary ≡ all_counted (record { kinds = s.kinds; stale = s.stale; latest = s.latest }) done) where
      summed : summary ≡ summary_of after.records
      summed =
          sums
          ∙ ap (λ (sum : Summary). all_counted sum done)
          (ap₂ (λ (kinds : _) (stale : ℕ). record { kinds = kinds; stale = stale; latest = s.latest }) going.kinds
          going.stale
          ∙ ap (λ (latest : _). record (summary_of s.machine.records) { latest = latest }) going.latest)
          ∙ counted_all s.machine.records done (subst RisesByNumber piece.added piece.rising)
          (subst (λ (records : List Record). length records < 2 ^ 64) piece.added piece.few)
          ∙ ap summary_of (sym piece.added)

      -- the run behind the piece, at a pace
      abbrev behind_it : Paced → StreamState
      behind_it pace = record {
        machine = after;
        ahead = record ahead { queues = queues };
        pace = pace;
        limit = s.limit;
        left = left;
        end = end;
        at_end = at_end;
        done = done;
        kinds = summary.kinds;
        stale = summary.stale;
        latest = summary.latest;
      }

      pub is_further : IsGoing (taken ++ more) (behind_it next)
      is_further = subst (λ (pace : Paced). IsGoing (taken ++ more) (behind_it pace)) (sym piece.paced) (record {
        events = going.events ++ piece.events;
        leads = piece.leads ∙ ap (λ (m : Machine). after_all m piece.events) going.leads
            ∙ sym (all_both (at_start s.machine.config empty) going.events piece.events)
            ∙ ap (λ (c : Config). after_all (at_start c empty) (going.events ++ piece.events)) (sym piece.config);
        ended = subst (λ (c : Config). Stands c s.pace.policy (s.limit - left) at_end told (going.events ++
            piece.events)
            after queues end) (sym piece.config) left_stands;
        within = let under = going.within in elim (counted at_end end) [
          | inl rest ↦ omega (arith, rest, under)
          | inr over ↦ let none = over.0 in omega (arith, none)
        ];
        goes = goes at_end refl end refl;
        idle = piece.idle;
        few = subst (λ (c : Config). cores_of told ≤ c.cores) (sym piece.config) no_more;
        met = met;
        words = words;
        rising = piece.rising;
        kinds = ap (λ (sum : Summary). sum.kinds) summed;
        stale = ap (λ (sum : Summary). sum.stale) summed;
        latest = ap (λ (sum : Summary). sum.latest) summed;
        good = subst (λ (c : Config). is_good c ≡ true) (sym piece.config) going.good;
      })

-- a piece takes turns
pub takes_turns : (left turns : ℕ) (end : End) → 0 < turns → turns ≤ left → turns_left left turns end < left
takes_turns left turns AllDone some within = omega (arith, some, within)
takes_turns left turns TurnsUsed some within = omega (arith, some, within)
takes_turns left turns Stalled some within = omega (arith, some, within)
takes_turns left turns Exhausted some within = omega (arith, some, within)
takes_turns left turns NoMemory some within = omega (arith, some, within)
