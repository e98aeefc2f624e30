-- What is noted of a core and a line is how the last event that took the copy did so, and misses are counted by that.
use Rattle.std.proofs.Common.{◌≡◌, ◌≢◌, ◌⊎◌, ℕ, zero, suc, ◌^◌, ◌<◌, ◌≤◌, Bool, true, false, cond, List}
use Rattle.std.proofs.Common.{[], ◌∷◌, length, Option, Some, None, inl, inr, refl, sym, ap, ◌∙◌, subst, arith}
use Rattle.std.specs.Prelude.{slice_get}
use Rattle.std.specs.Option.{is_some}
use Rattle.std.specs.Ordering.{nat_cmp, eq_by_cmp}
use Rattle.std.specs.FinMap.{FinMap, get, get-empty, get-insert}
use Rattle.std.specs.Cmp.{nat_cmp_total}
use Rattle.std.proofs.lemmas.Bool.{true≢false}
use Rattle.std.proofs.lemmas.Bool.Decides.{nat_tests}
use Rattle.physiological_order.specs.declared.operation.Op.{Op}
use Rattle.physiological_order.specs.declared.operation.Op.TheVariants.{Load, Store, Swap}
use Rattle.network.specs.declared.message.Message.{Message}
use Rattle.network.specs.declared.message.Node.{Node}
use Rattle.network.specs.declared.message.Node.TheVariants.{Core, Bank, Dram}
use Rattle.network.specs.NumberedMessages.{at_number}
use Rattle.private_cache.specs.declared.line_copy.LineCopy.{LineCopy}
use Rattle.private_cache.specs.CopyTable.{copy_of}
use Rattle.core_pts.specs.CoreTable.{CoreState, line_of}
use Rattle.machine_table.specs.declared.config.Config.{Config}
use Rattle.machine_table.specs.declared.event.Event.{Event}
use Rattle.machine_table.specs.declared.event.Event.TheVariants as event
use Rattle.machine_table.specs.declared.event.Answer.{Answer}
use Rattle.machine_table.specs.Machine.{Machine}
use Rattle.machine_table.specs.Opening.{at_start, open_core}
use Rattle.machine_table.specs.Runs.{after_all}
use Rattle.machine_table.specs.Transition.{transition}
use Rattle.machine_table.proofs.Lemmas.{row_many}
use Rattle.machine_theorem.proofs.Lemmas.{transition_same}
use Rattle.protocol.proofs.Lemmas.{Some_injective}
use Rattle.schedules.specs.Watches.{watched}
use Rattle.event_counts.specs.declared.cause.Cause.{Cause}
use Rattle.event_counts.specs.Counting.{Counter, counted, counter_events, counter_seen, goes_to, is_row, no_counter}
use Rattle.event_counts.specs.Counting.{cause_of, cause_on, cause_open, cause_without, with_row}
use Rattle.event_counts.specs.Losses.{Lost, at_risk, copy_at, copy_for, copy_under, has_copy, key_of, loss, lost_after}
use Rattle.event_counts.specs.Losses.{taken_by, with_loss}
use Rattle.event_counts.specs.LossLaw.{IsCause, IsLastTaken, NeverHas, NoneTakes, Takes, TellsLoss}
use Rattle.event_counts.proofs.HashedMaps.{same_test}
use Rattle.event_counts.proofs.TakenCopies.{taken}

-- cores and lines with one key are the same
pub same_key : (core line c l : ℕ) → core < 2 ^ 32 → c < 2 ^ 32 → key_of core line ≡ key_of c l →
    (core ≡ c) × (line ≡ l)
same_key core line c l low small same =
    let lines : line ≡ l = omega (arith, same, low, small) in (omega (arith, same, lines), lines)

-- a core with a copy is one of the machine's
is_below : (cores : List CoreState) (c l : ℕ) → has_copy (slice_get cores c) l ≡ true → c < length cores
is_below [] c l there = absurd (true≢false (sym there))
is_below (x ∷ cores) zero l there = omega arith
is_below (x ∷ cores) (suc c) l there = let rest = is_below cores c l there in omega (arith, rest)

-- what is at risk is there
module _ (m : Machine) (x : ℕ × ℕ) where
  abbrev There : Type 0
  There = has_copy (slice_get m.cores x.0) x.1 ≡ true

  copy_there : (c l : ℕ) → copy_at m c l ≡ Some x → There
  copy_there c l is = by (has_copy (slice_get m.cores c) l) refl is
    where
      by : (b : Bool) → has_copy (slice_get m.cores c) l ≡ b → cond b (Some (c, l)) None ≡ Some x → There
      by true there is =
          subst (λ (y : ℕ × ℕ). has_copy (slice_get m.cores y.0) y.1 ≡ true) (Some_injective (c, l) x is) there
      by false there is = absurd (let none : ◌≡◌ {A = Option (ℕ × ℕ)} None (Some x) = is in cc)

  none_there : ◌≡◌ {A = Option (ℕ × ℕ)} None (Some x) → There
  none_there is = absurd (cc)

  for_there : (l : ℕ) (to : Node) → copy_for m l to ≡ Some x → There
  for_there l (Core c) is = copy_there c l is
  for_there l (Bank b) is = none_there is
  for_there l (Dram b) is = none_there is

  under_there : (o : Option Message) → copy_under m o ≡ Some x → There
  under_there None is = none_there is
  under_there (Some message) is = for_there message.line message.to is

  risk_there : (e : Event) → at_risk m e ≡ Some x → There
  risk_there (event.EvictCache c l) is = copy_there c l is
  risk_there (event.Deliver n) is = under_there (at_number n m.mail.messages) is
  risk_there _ is = none_there is

-- one number is another, or not
alike : (a : ℕ) → eq_by_cmp nat_cmp a a ≡ true
alike a = same_test a a ∙ grind (arith, nat_tests)

apart : (a b : ℕ) → a ≢ b → eq_by_cmp nat_cmp a b ≡ false
apart a b ne = same_test a b ∙ grind (arith, nat_tests, ne)

row_lost : (k : Counter) (due : Bool) → (with_row k due).lost ≡ k.lost
row_lost k true = refl
row_lost k false = refl

module _ (core line : ℕ) (low : core < 2 ^ 32) where
  -- one event
  module _ (m : Machine) (few : length m.cores ≤ 2 ^ 32) (e : Event) (lost : Lost) where
    abbrev after : Machine
    after = (transition m e).1

    abbrev noted : Option Cause
    noted = loss (lost_after lost (at_risk m e) e after) core line

    -- it takes the copy
    takes : Takes m e core line → noted ≡ Some (taken_by e)
    takes t =
        let key = key_of core line in
        ap (λ o. loss (lost_after lost o e after) core line) (taken m core line e t.before t.after)
        ∙ ap (λ b. loss (cond b lost (with_loss lost core line (taken_by e))) core line) t.after
        ∙ get-insert nat_cmp_total lost key (taken_by e) key
        ∙ ap (λ b. cond b (Some (taken_by e)) (get lost key)) (alike key)

    -- it doesn't
    leaves : (Takes m e core line → ⊥) → noted ≡ loss lost core line
    leaves other = by (at_risk m e) refl
      where
        other_key : (x : ℕ × ℕ) → at_risk m e ≡ Some x → has_copy (slice_get after.cores x.0) x.1 ≡ false →
            key_of core line ≢ key_of x.0 x.1
        other_key x is gone same =
            let there = risk_there m x e is in let below = is_below m.cores x.0 x.1 there in
            let k = same_key core line x.0 x.1 low (omega (arith, below, few)) same in
            other (record {
              before = rw (k.0, k.1) there;
              after = rw (k.0, k.1) gone;
            })

        put : (x : ℕ × ℕ) → at_risk m e ≡ Some x → (b : Bool) → has_copy (slice_get after.cores x.0) x.1 ≡ b →
            loss (cond b lost (with_loss lost x.0 x.1 (taken_by e))) core line ≡ loss lost core line
        put x is true there = refl
        put x is false gone =
            let ne = other_key x is gone in
            let key = key_of core line in let k = key_of x.0 x.1 in
            get-insert nat_cmp_total lost k (taken_by e) key
            ∙ ap (λ b. cond b (Some (taken_by e)) (get lost key)) (apart key k ne)

        by : (o : Option (ℕ × ℕ)) → at_risk m e ≡ o → loss (lost_after lost o e after) core line ≡ loss lost core line
        by None is = refl
        by (Some x) is = put x is (has_copy (slice_get after.cores x.0) x.1) refl

  -- a list of events: none took the copy, and what is noted stays; or this one was the last, and it is noted
  abbrev Tells : Machine → List Event → Option Cause → Option Cause → Type 0
  Tells m events before now = (NoneTakes m events core line × (now ≡ before))
      ⊎ ((why : Cause) × IsLastTaken m events core line why × (now ≡ Some why))

  all_told : (m : Machine) (events : List Event) (k : Counter) → length m.cores ≤ 2 ^ 32 →
      Tells m events (loss k.lost core line) (loss (watched counter_events k m events).lost core line)
  all_told m [] k few = inl (tt, refl)
  all_told m (e ∷ events) k few =
      let parts = transition_same m e in
      elim (all_told next.1 events seen (omega (arith, few, parts.cores))) [
        | inr w ↦ inr (w.0, longer w.0 w.1, w.2)
        | inl none ↦ first none (has_copy (slice_get m.cores core) line) refl
            (has_copy (slice_get next.1.cores core) line) refl
      ]
    where
      next : Answer × Machine
      next = transition m e

      seen : Counter
      seen = counter_seen k m e next.0 next.1

      all : Option Cause
      all = loss (watched counter_events seen next.1 events).lost core line

      lost_is : loss seen.lost core line ≡ loss (lost_after k.lost (at_risk m e) e next.1) core line
      lost_is = ap (λ (l : Lost). loss l core line) (row_lost (counted k (goes_to m e) (at_risk m e) e next.0 next.1)
          (is_row k.every (length next.1.records) next.0))

      longer : (why : Cause) → IsLastTaken next.1 events core line why → IsLastTaken m (e ∷ events) core line why
      longer why w = record {
        before = e ∷ w.before;
        event = w.event;
        after = w.after;
        split = ap (λ xs. e ∷ xs) w.split;
        takes = w.takes;
        so = w.so;
        last = w.last;
      }

      rest : NoneTakes next.1 events core line × (all ≡ loss seen.lost core line) → (Takes m e core line → ⊥) →
          Tells m (e ∷ events) (loss k.lost core line) all
      rest none other = inl ((other, none.0), none.1 ∙ lost_is ∙ leaves m few e k.lost other)

      first : NoneTakes next.1 events core line × (all ≡ loss seen.lost core line) → (b : Bool) →
          has_copy (slice_get m.cores core) line ≡ b → (d : Bool) → has_copy (slice_get next.1.cores core) line ≡ d →
          Tells m (e ∷ events) (loss k.lost core line) all
      first none true there false gone =
          let t : Takes m e core line = record { before = there; after = gone } in
          inr (
            taken_by e,
            record {
              before = [];
              event = e;
              after = events;
              split = refl;
              takes = t;
              so = refl;
              last = none.0;
            },
            none.1 ∙ lost_is ∙ takes m few e k.lost t,
          )
      first none true there true still = rest none (λ t. absurd (true≢false (sym still ∙ t.after)))
      first none false absent d is = rest none (λ t. absurd (true≢false (sym t.before ∙ absent)))

-- from the opening
pub losses_told : (config : Config) (memory : FinMap nat_cmp ℕ) (cores banks core line : ℕ) (every : Option ℕ)
    (events : List Event) → config.cores ≤ 2 ^ 32 → core < config.cores → let m = at_start config memory in
    TellsLoss m events core line
    (loss (watched counter_events (no_counter cores banks every) m events).lost core line)
losses_told config memory cores banks core line every events few below =
    let m = at_start config memory in
    let many = row_many (open_core config) 0 config.cores in
    elim (all_told core line (omega (arith, few, below)) m events (no_counter cores banks every)
    (omega (arith, few, many))) [
      | inl none ↦ subst (TellsLoss m events core line) (sym (none.1 ∙ get-empty nat_cmp (key_of core line))) none.0
      | inr w ↦ subst (TellsLoss m events core line) (sym w.2) w.1
    ]

-- a copy that no event takes, and that isn't there at the end, was never there
never : (m : Machine) (events : List Event) (core line : ℕ) → NoneTakes m events core line →
    has_copy (slice_get (after_all m events).cores core) line ≡ false → NeverHas m events core line
never m [] core line none absent = absent
never m (e ∷ events) core line none absent =
    let rest = never (transition m e).1 events core line none.1 absent in
    (by (has_copy (slice_get m.cores core) line) refl (absent_first (transition m e).1 events rest), rest)
  where
    absent_first : (n : Machine) (more : List Event) → NeverHas n more core line →
        has_copy (slice_get n.cores core) line ≡ false
    absent_first n [] is = is
    absent_first n (x ∷ more) is = is.0

    by : (b : Bool) → has_copy (slice_get m.cores core) line ≡ b →
        has_copy (slice_get (transition m e).1.cores core) line ≡ false →
        has_copy (slice_get m.cores core) line ≡ false
    by true there gone = absurd (none.0 (record { before = there; after = gone }))
    by false absent gone = absent

-- the cause that a request is counted with, behind any events since the opening
pub causes_told : (config : Config) (memory : FinMap nat_cmp ℕ) (cores banks core : ℕ) (every : Option ℕ)
    (events : List Event) (state : CoreState) (op : Op) → config.cores ≤ 2 ^ 32 → core < config.cores →
    let m = at_start config memory in slice_get (after_all m events).cores core ≡ Some state →
    state.open_op ≡ Some op →
    IsCause m events core (line_of state op) op (is_some (copy_of state.cache (line_of state op)))
    (cause_of (watched counter_events (no_counter cores banks every) m events).lost core (Some state))
causes_told config memory cores banks core every events state op few below at opens =
    subst (IsCause m events core line op (is_some (copy_of state.cache line)))
    (ap (cause_open lost core state) (sym opens)) (by (copy_of state.cache line) refl)
  where
    m : Machine
    m = at_start config memory

    line : ℕ
    line = line_of state op

    lost : Lost
    lost = (watched counter_events (no_counter cores banks every) m events).lost

    without : (o : Option Cause) → TellsLoss m events core line o →
        has_copy (slice_get (after_all m events).cores core) line ≡ false →
        IsCause m events core line op false (cause_without o)
    without None told absent = inl (refl, never m events core line told absent)
    without (Some why) told absent = inr told

    with_copy : (o : Op) (copy : LineCopy) →
        IsCause m events core line o true (cause_on o (Some copy) (loss lost core line))
    with_copy (Load a) copy = refl
    with_copy (Store a v) copy = refl
    with_copy (Swap a v) copy = refl

    by : (o : Option LineCopy) → copy_of state.cache line ≡ o →
        IsCause m events core line op (is_some o) (cause_on op o (loss lost core line))
    by None none = without (loss lost core line)
        (losses_told config memory cores banks core line every events few below)
        (ap (λ (x : Option CoreState). has_copy x line) at ∙ ap is_some none)
    by (Some copy) there = with_copy op copy
