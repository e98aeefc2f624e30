-- The rows of a counter are what it counted after the first events of a run.
use Rattle.std.proofs.Common.{◌≡◌, ◌≢◌, ℕ, zero, suc, ◌+◌, ◌-◌, ◌*◌, ◌/◌, ◌%◌, ◌<◌, ◌≤◌, Bool, true, false, List, []}
use Rattle.std.proofs.Common.{◌∷◌, ◌++◌, length, Option, Some, None, refl, sym, ap, ◌∙◌, subst, arith, append_assoc}
use Rattle.std.proofs.Common.{⊎_elim, ap₂, append-nil, length-append, nat_lt, ◌&&◌, ◌==◌}
use Rattle.std.specs.Prelude.{IfSome}
use Rattle.std.specs.List.{slice_get}
use Rattle.std.specs.Ordering.{nat_cmp}
use Rattle.std.specs.FinMap.{FinMap}
use Rattle.std.proofs.lemmas.Bool.Decides.{nat_tests, eqb_tells}
use Rattle.std.proofs.lemmas.Nat.{div-mul-add, mod-mul-add}
use Rattle.machine_table.specs.declared.event.Event.{Event}
use Rattle.machine_table.specs.declared.event.Answer.{Answer}
use Rattle.machine_table.specs.declared.event.Answer.TheVariants as answer
use Rattle.machine_table.specs.declared.event.Refusal.{Refusal}
use Rattle.machine_table.specs.declared.event.Refusal.TheVariants as refusal
use Rattle.machine_table.specs.Answered.{Answered, RefusedSo}
use Rattle.machine_table.specs.declared.config.Config.{Config}
use Rattle.machine_table.specs.Machine.{Machine}
use Rattle.machine_table.specs.Opening.{at_start}
use Rattle.machine_table.specs.Runs.{after_all}
use Rattle.machine_table.specs.Transition.{transition}
use Rattle.machine_table.proofs.Lemmas.{every_answer}
use Rattle.protocol.proofs.Lemmas.{Some_injective}
use Rattle.schedules.specs.Watches.{watched}
use Rattle.event_counts.specs.Counting.{Counter, EventCounts, counted, counter_events, counter_seen, goes_to, is_row}
use Rattle.event_counts.specs.Counting.{no_counter, with_row}
use Rattle.event_counts.specs.Losses.{at_risk}
use Rattle.event_counts.specs.RowLaw.{IsRow}

-- one event more, behind others
after_more : (m : Machine) (events : List Event) (e : Event) →
    after_all m (events ++ e ∷ []) ≡ (transition (after_all m events) e).1
after_more m [] e = refl
after_more m (x ∷ events) e = after_more (transition m x).1 events e

watched_more : (k : Counter) (m : Machine) (events : List Event) (e : Event) →
    watched counter_events k m (events ++ e ∷ []) ≡
    (let now = after_all m events in let next = transition now e in
    counter_seen (watched counter_events k m events) now e next.0 next.1)
watched_more k m [] e = refl
watched_more k m (x ∷ events) e =
    watched_more (counter_seen k m x (transition m x).0 (transition m x).1) (transition m x).1 events e

-- a row at an index, where one is added behind
at_end : {X : Type 0} (xs : List X) (x : X) (P : ℕ → X → Type 0) →
    ((at : ℕ) (y : X) → slice_get xs at ≡ Some y → P at y) → P (length xs) x →
    (at : ℕ) (y : X) → slice_get (xs ++ x ∷ []) at ≡ Some y → P at y
at_end [] x P all last zero y is = subst (P 0) (Some_injective x y is) last
at_end {X = X} [] x P all last (suc at) y is = absurd (let none : ◌≡◌ {A = Option X} None (Some y) = is in cc)
at_end (z ∷ xs) x P all last zero y is = all zero y is
at_end (z ∷ xs) x P all last (suc at) y is = at_end xs x (λ at. P (suc at)) (λ at y is. all (suc at) y is) last at y is

-- how many records an event adds
abbrev Adds : Machine → Answer → Machine → Type 0
Adds m (answer.Completed done) after = length after.records ≡ length m.records + 1
Adds m _ after = length after.records ≡ length m.records

refused_same : (m : Machine) (why : Refusal) (after : Machine) → RefusedSo m why after → after.records ≡ m.records
refused_same m refusal.Exhausted after is = ap (λ (n : Machine). n.records) is
refused_same m refusal.NoMemory after is = absurd is
refused_same m _ after is = ap (λ (n : Machine). n.records) is

adds : (m : Machine) (a : Answer) (after : Machine) → Answered m a after → Adds m a after
adds m (answer.Refused why) after is = ap length (refused_same m why after is)
adds m (answer.Completed r) after is = ap length is.records ∙ length-append m.records (r ∷ [])
adds m answer.Waiting after is = ap (λ (k : Machine). length k.records) is
adds m answer.Idle after is = ap (λ (k : Machine). length k.records) is
adds m answer.Held after is = ap (λ (k : Machine). length k.records) is
adds m answer.Issued after is = ap length is.records
adds m answer.Requested after is = ap length is.records
adds m answer.Delivered after is = ap length is.records
adds m answer.Dropped after is = ap length is.records
adds m answer.Started after is = ap length is.records
adds m answer.Evicted after is = ap length is.records
adds m answer.Recalled after is = ap length is.records
adds m answer.Advanced after is = ap length is.records

-- the next multiple is so much more
next_multiple : (every rows done : ℕ) → rows * every ≤ done → done < rows * every + every →
    (done + 1) % every ≡ 0 → done + 1 ≡ rows * every + every
next_multiple every rows done low high none =
    ⊎_elim (λ e. e.1) (λ e. absurd (apart e.1)) (eqb_tells (done + 1) (rows * every + every))
  where
    apart : done + 1 ≢ rows * every + every → ⊥
    apart ne =
        let rest = done + 1 - rows * every in
        let is : done + 1 ≡ rows * every + rest = omega (arith, low) in
        let least = sym (mod-mul-add rows every rest (omega (arith, low, high, ne)))
        ∙ ap (λ n. n % every) (sym is) ∙ none in
        omega (arith, low, least)

next_row : (rows every : ℕ) → (rows + 1) * every ≡ rows * every + every
next_row rows every = omega arith

-- a row is due at multiples alone
due_multiple : (every done : ℕ) → (nat_lt 0 every && (done % every == 0)) ≡ true → done % every ≡ 0
due_multiple every done due = grind (arith, nat_tests, due)

not_yet : (every rows done after : ℕ) → 0 < every → after ≡ done + 1 → done < rows * every + every →
    (nat_lt 0 every && (after % every == 0)) ≡ false → after < rows * every + every
not_yet every rows done after some adds high due =
    ⊎_elim (λ e. absurd (multiple e.1)) (λ e. omega (arith, adds, high, e.1)) (eqb_tells after (rows * every + every))
  where
    multiple : after ≡ rows * every + every → ⊥
    multiple is =
        let none : after % every ≡ 0 = ap (λ n. n % every) (is ∙ sym (next_row rows every) ∙ omega arith)
        ∙ mod-mul-add (rows + 1) every 0 some in
        grind (arith, nat_tests, due, none, some)

module _ (first : Counter) (m : Machine) (every : ℕ) (some : 0 < every) where
  -- what holds after the first events
  record Rows (events : List Event) (k : Counter) (now : Machine) : Type 0 where
    counter : k ≡ watched counter_events first m events
    leads : now ≡ after_all m events
    every_is : k.every ≡ Some every
    low : length k.rows * every ≤ length now.records
    high : length now.records < length k.rows * every + every
    all : (at : ℕ) (row : EventCounts) → slice_get k.rows at ≡ Some row →
        IsRow first m events ((at + 1) * every) row

  -- a row stays one, where an event follows
  longer : (events : List Event) (e : Event) (done : ℕ) (row : EventCounts) → IsRow first m events done row →
      IsRow first m (events ++ e ∷ []) done row
  longer events e done row is = record {
    before = is.before;
    after = is.after ++ e ∷ [];
    split = ap (λ xs. xs ++ e ∷ []) is.split ∙ append_assoc is.before is.after (e ∷ []);
    counts = is.counts;
    completed = is.completed;
  }

  module _ (events : List Event) (k : Counter) (now : Machine) (has : Rows events k now) (e : Event) where
    -- the events with one more, and what the counter has behind an answer but for a row
    abbrev longer_by : List Event
    longer_by = events ++ e ∷ []

    abbrev behind : Machine → Answer → Counter
    behind after a = counted k (goes_to now e) (at_risk now e) e a after

    -- no row is due
    none_due : (after : Machine) (a : Answer) → length now.records ≤ length after.records →
        length after.records < length k.rows * every + every →
        behind after a ≡ watched counter_events first m longer_by → after ≡ after_all m longer_by →
        Rows longer_by (behind after a) after
    none_due after a more few is leads = record {
      counter = is;
      leads = leads;
      every_is = has.every_is;
      low = omega (arith, has.low, more);
      high = few;
      all = λ at row there. longer events e ((at + 1) * every) row (has.all at row there);
    }

    -- a row is due
    one_due : (after : Machine) (a : Answer) → length after.records ≡ length k.rows * every + every →
        with_row (behind after a) true ≡ watched counter_events first m longer_by → after ≡ after_all m longer_by →
        Rows longer_by (with_row (behind after a) true) after
    one_due after a done is leads =
        let many = length-append k.rows ((behind after a).counts ∷ []) in
        let rows = ap (λ n. n * every) many ∙ next_row (length k.rows) every in record {
          counter = is;
          leads = leads;
          every_is = has.every_is;
          low = omega (arith, rows, done);
          high = omega (arith, rows, done, some);
          all = at_end k.rows (behind after a).counts (λ at row. IsRow first m longer_by ((at + 1) * every) row)
              (λ at row there. longer events e ((at + 1) * every) row (has.all at row there))
              (record {
                before = longer_by;
                after = [];
                split = sym (append-nil longer_by);
                counts = ap (λ (c : Counter). c.counts) is;
                completed = ap (λ (n : Machine). length n.records) (sym leads) ∙ done
                    ∙ sym (next_row (length k.rows) every);
              });
        }

    -- what an answer makes
    by_answer : (a : Answer) (after : Machine) → Adds now a after →
        with_row (behind after a) (is_row (Some every) (length after.records) a)
        ≡ watched counter_events first m longer_by → after ≡ after_all m longer_by →
        Rows longer_by (with_row (behind after a) (is_row (Some every) (length after.records) a)) after
    by_answer (answer.Completed r) after adds is leads =
        by (is_row (Some every) (length after.records) (answer.Completed r)) refl is
      where
        by : (due : Bool) → is_row (Some every) (length after.records) (answer.Completed r) ≡ due →
            with_row (behind after (answer.Completed r)) due ≡ watched counter_events first m longer_by →
            Rows longer_by (with_row (behind after (answer.Completed r)) due) after
        by true due is =
            one_due after (answer.Completed r)
            (adds ∙ next_multiple every (length k.rows) (length now.records) has.low has.high
            (ap (λ n. n % every) (sym adds) ∙ due_multiple every (length after.records) due)) is leads
        by false due is =
            none_due after (answer.Completed r) (omega (arith, adds))
            (not_yet every (length k.rows) (length now.records) (length after.records) some adds has.high due) is leads
    by_answer a after adds is leads = none_due after a (omega (arith, adds)) (omega (arith, adds, has.high)) is leads

    more : let next = transition now e in Rows longer_by (counter_seen k now e next.0 next.1) next.1
    more =
        let next = transition now e in
        let seen : (counter_seen k now e next.0 next.1 ≡ watched counter_events first m longer_by)
        = ap₂ (λ (c : Counter) (n : Machine). let made = transition n e in counter_seen c n e made.0 made.1)
        has.counter has.leads ∙ sym (watched_more first m events e) in
        let leads = ap (λ n. (transition n e).1) has.leads ∙ sym (after_more m events e) in
        subst (λ o. Rows longer_by (with_row (behind next.1 next.0) (is_row o (length next.1.records) next.0)) next.1)
        (sym has.every_is)
        (by_answer next.0 next.1 (adds now next.0 next.1 (every_answer now e))
        (subst (λ o. with_row (behind next.1 next.0) (is_row o (length next.1.records) next.0)
        ≡ watched counter_events first m longer_by) has.every_is seen) leads)

  all_rows : (before after : List Event) (k : Counter) (now : Machine) → Rows before k now →
      Rows (before ++ after) (watched counter_events k now after) (after_all now after)
  all_rows before [] k now has =
      subst (λ events. Rows events k now) (sym (append-nil before)) has
  all_rows before (e ∷ after) k now has =
      let next = transition now e in
      subst (λ events. Rows events (watched counter_events k now (e ∷ after)) (after_all now (e ∷ after)))
      (append_assoc before (e ∷ []) after)
      (all_rows (before ++ e ∷ []) after (counter_seen k now e next.0 next.1) next.1 (more before k now has e))

if_some : {X : Type 0} (P : X → Type 0) (o : Option X) → ((x : X) → o ≡ Some x → P x) → IfSome o P
if_some P None all = tt
if_some P (Some x) all = all x refl

module _ (config : Config) (memory : FinMap nat_cmp ℕ) (cores banks every : ℕ) (events : List Event)
    (some : 0 < every) where
  abbrev start : Machine
  start = at_start config memory

  abbrev first : Counter
  first = no_counter cores banks (Some every)

  counted_so : Rows first start every some events (watched counter_events first start events) (after_all start events)
  counted_so = all_rows first start every some [] events first start (record {
    counter = refl;
    leads = refl;
    every_is = refl;
    low = omega arith;
    high = omega (arith, some);
    all = λ at row there. absurd (let none : ◌≡◌ {A = Option EventCounts} None (Some row) = there in cc);
  })

  pub rows_counted : (at : ℕ) → IfSome (slice_get (watched counter_events first start events).rows at)
      (IsRow first start events ((at + 1) * every))
  rows_counted at = if_some (IsRow first start events ((at + 1) * every)) _ (counted_so.all at)

  pub rows_number : length (watched counter_events first start events).rows ≡
      length (after_all start events).records / every
  rows_number =
      let rows = length (watched counter_events first start events).rows in
      let rest = length (after_all start events).records - rows * every in
      sym (div-mul-add rows every rest (omega (arith, counted_so.low, counted_so.high)))
      ∙ ap (λ n. n / every) (omega (arith, counted_so.low))
