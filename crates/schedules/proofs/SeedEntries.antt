-- The entry of a seeded turn's list that is made.
use Rattle.std.proofs.Common.{◌≡◌, ◌+◌, ◌%◌, ◌<◌, ℕ, zero, suc, Bool, true, false, List, [], ◌∷◌, ◌++◌}
use Rattle.std.proofs.Common.{inl, inr, ◌^◌, length, map, get_or, Some, refl, sym, ap, ◌∙◌, ◌-◌, ◌≤◌, arith}
use Rattle.std.proofs.Common.{◌≢◌}
use Rattle.std.specs.Prelude.{slice_get, is_some, Option, None}
use Rattle.std.specs.List.{flat_map, range_with_len}
use Rattle.std.proofs.Math.Nat.{mod-lt}
use Rattle.std.proofs.lemmas.Bool.{cases_eq, cases_lt}
use Rattle.std.proofs.lemmas.Nat.Bits.{bit_at-trailing_zeros, bit_at-zero}
use Rattle.std.specs.Int.{bit_at, trailing_zeros, w64}
use Rattle.std.proofs.lemmas.List.{length-map, length-append, get_or_append_left, get_or-append-add, get_or-map}
use Rattle.std.proofs.lemmas.List.{get_or_past}
use Rattle.std.proofs.lemmas.List.FromFn.{get_or-map-range_with_len, length-map-range_with_len}
use Rattle.std.proofs.lemmas.Option.{get_or_from_slice_get, slice_get_within, slice_get-get_or}
use Rattle.machine_table.specs.Machine.{open_op, Machine}
use Rattle.machine_table.specs.declared.event.Event.{Event}
use Rattle.machine_table.specs.declared.event.Event.TheVariants as event
use Rattle.ranked_lines.specs.Rising.{sorted}
use Rattle.ranked_lines.proofs.Lemmas.{length-sorted}
use Rattle.physiological_order.specs.declared.operation.Op.{Op}
use Rattle.programs.specs.declared.steps.Step.{Step}
use Rattle.programs.specs.Acts.{Acts, next_in}
use Rattle.schedules.specs.Parts.{Does}
use Rattle.schedules.specs.RoundSchedule.{numbers_in_flight, step_action}
use Rattle.schedules.specs.SeedSchedule.{Choice, Makes, Evicts, Tries, Delivers, Nothing}
use Rattle.schedules.specs.SeedSchedule.{advances, core_step, core_steps}
use Rattle.schedules.specs.SeedSchedule.{choice_at, chosen, drawn_list, line_events, steps}
use Rattle.schedules.specs.SeedViews.{is_eviction}
use Rattle.schedules.specs.Notes.{Point, standing, IsRefused}
use Rattle.schedules.specs.Watches.{Watches}
use Rattle.schedules.proofs.Parts.{list_refused}
use Rattle.schedules.proofs.Pieces.{at_piece, length_more}

-- an empty list has none
pub no_entry : (choices : List Choice) (b : ℕ) → length choices ≡ 0 → choice_at choices b ≡ Nothing
no_entry [] b empty = get_or_past [] (b % 0) Nothing (omega arith)
no_entry (x ∷ xs) b empty = absurd (omega (arith, empty))

pub advance_count : (m : Machine) → length (advances m) ≡ m.config.cores
advance_count m = length-map-range_with_len (λ c. Makes (Does (event.Advance c))) 0 m.config.cores

pub advance_entry : (m : Machine) (b core : ℕ) → 0 < m.config.cores → core ≡ b % m.config.cores →
    choice_at (advances m) b ≡ Makes (Does (event.Advance core))
advance_entry m b core some is =
    let f : ℕ → Choice = λ c. Makes (Does (event.Advance c)) in
    ap (λ n. get_or (advances m) (b % n) Nothing) (advance_count m)
    ∙ get_or-map-range_with_len f 0 m.config.cores (b % m.config.cores) core Nothing (mod-lt b some)
    (omega (arith, is))

-- the events of lines, holder by holder
module _ (eviction : ℕ → ℕ → Event) (lines : ℕ → List ℕ) where
  abbrev pub piece : ℕ → List Choice
  piece holder = map (λ line. Evicts (eviction holder line)) (sorted (lines holder))

  pub piece_length : (holder : ℕ) → length (piece holder) ≡ length (lines holder)
  piece_length holder = length-map (sorted (lines holder)) (λ line. Evicts (eviction holder line))
      ∙ length-sorted (lines holder)

  pub one_holder_more : (n : ℕ) → length (line_events eviction lines (n + 1)) ≡
      length (line_events eviction lines n) + length (lines n)
  one_holder_more n = length_more piece n ∙ ap (λ k. length (line_events eviction lines n) + k) (piece_length n)

  -- a holder's line at a place
  pub line_at : (n b holder at line : ℕ) → holder < n → at < length (lines holder) →
      slice_get (sorted (lines holder)) at ≡ Some line →
      length (line_events eviction lines holder) + at ≡ b % length (line_events eviction lines n) →
      choice_at (line_events eviction lines n) b ≡ Evicts (eviction holder line)
  line_at n b holder at line below within is here =
      let inside : at < length (piece holder) = rw (piece_length holder) within in
      let sorted_inside : at < length (sorted (lines holder)) = rw (length-sorted (lines holder)) within in
      ap (λ k. get_or (line_events eviction lines n) k Nothing) (sym here)
      ∙ at_piece piece n holder at Nothing below inside
      ∙ get_or-map (λ l. Evicts (eviction holder l)) (sorted (lines holder)) at line Nothing sorted_inside
      ∙ ap (λ l. Evicts (eviction holder l)) (get_or_from_slice_get (sorted (lines holder)) at line line is)

  -- where there are lines, one is chosen
  entry_is : (holders : List ℕ) (k : ℕ) → k < length (flat_map piece holders) →
      is_eviction (get_or (flat_map piece holders) k Nothing) ≡ true
  entry_is [] k lt = absurd (omega (arith, lt))
  entry_is (holder ∷ holders) k lt = go (sorted (lines holder)) k (entry_is holders) lt
    where
      go : (ls : List ℕ) (k : ℕ) → ((i : ℕ) → i < length (flat_map piece holders) →
          is_eviction (get_or (flat_map piece holders) i Nothing) ≡ true) →
          k < length (map (λ line. Evicts (eviction holder line)) ls ++ flat_map piece holders) →
          is_eviction (get_or (map (λ line. Evicts (eviction holder line)) ls ++ flat_map piece holders) k Nothing)
          ≡ true
      go [] k later lt = later k lt
      go (l ∷ ls) zero later lt = refl
      go (l ∷ ls) (suc k) later lt = go ls k later (omega (arith, lt))

  pub line_is_there : (n b : ℕ) → 0 < length (line_events eviction lines n) →
      is_eviction (choice_at (line_events eviction lines n) b) ≡ true
  line_is_there n b some =
      entry_is (range_with_len 0 n) (b % length (line_events eviction lines n)) (mod-lt b some)

-- a core does at most one thing next
one_step : (core : ℕ) (o : Option (Op × Bool)) (next : Option Step) → 0 < length (core_step core o next) →
    (choice : Choice) × (core_step core o next ≡ choice ∷ [])
one_step core None None some = absurd (omega (arith, some))
one_step core None (Some next) some = (Makes (step_action core next), refl)
one_step core (Some (op, true)) next some = absurd (omega (arith, some))
one_step core (Some (op, false)) next some = (Tries core, refl)

first_of : List Choice → Choice
first_of choices = get_or choices 0 Nothing

-- it attempts its open operation, or does its program's next step
pub core_tries : (core : ℕ) (o : Option (Op × Bool)) (next : Option Step) (choice : Choice) → is_some o ≡ true →
    core_step core o next ≡ choice ∷ [] → choice ≡ Tries core
unfolding first_of
core_tries core (Some (op, true)) next choice has is = let bad = ap length is in absurd (omega (arith, bad))
core_tries core (Some (op, false)) next choice has is = sym (ap first_of is)
core_tries core None next choice has is = absurd cc

pub core_does : (core : ℕ) (next : Step) (choice : Choice) →
    core_step core None (Some next) ≡ choice ∷ [] → choice ≡ Makes (step_action core next)
unfolding first_of
core_does core next choice is = sym (ap first_of is)

module _ {P : Type 0} (acts : Acts P) (m : Machine) (programs : List P) where
  abbrev step_of : ℕ → List Choice
  step_of core = core_step core (open_op m core) (next_in acts programs core)

  pub one_core_more : (core : ℕ) → length (core_steps acts m programs (core + 1)) ≡
      length (core_steps acts m programs core) + length (step_of core)
  one_core_more core = length_more step_of core

  -- what a core does stands behind what the cores below it do
  pub step_found : (cores core place : ℕ) → core < cores → 0 < length (step_of core) →
      length (core_steps acts m programs core) ≡ place → place < length (core_steps acts m programs cores) →
      (next : Choice) × (step_of core ≡ next ∷ []) × (slice_get (core_steps acts m programs cores) place ≡ Some next)
  step_found cores core place below some here inside =
      let one = one_step core (open_op m core) (next_in acts programs core) some in
      let same : length (core_steps acts m programs core) + 0 ≡ place = omega (arith, here) in (
        one.0,
        one.1,
        slice_get-get_or (core_steps acts m programs cores) place Nothing inside
            ∙ ap Some (ap (λ k. get_or (core_steps acts m programs cores) k Nothing) (sym same)
            ∙ at_piece step_of cores core 0 Nothing below some ∙ ap (λ xs. get_or xs 0 Nothing) one.1),
      )

  -- the bits that are left once so many were cleared: those of the cores from one on, before which so many do something
  pub record Left (cores ready left skipped : ℕ) : Type 0 where
    pub from : ℕ
    pub within : from ≤ cores
    pub counted : length (core_steps acts m programs from) ≡ skipped
    pub none : (i : ℕ) → i < from → bit_at left i ≡ 0
    pub same : (i : ℕ) → from ≤ i → bit_at left i ≡ bit_at ready i

  pub first_left : (cores ready : ℕ) → Left cores ready ready 0
  first_left cores ready = record {
    from = 0;
    within = omega arith;
    counted = refl;
    none = λ i below. absurd (omega (arith, below));
    same = λ i past. refl;
  }

  -- cores that do nothing aren't counted
  none_between : (low k : ℕ) → ((i : ℕ) → low ≤ i → i < low + k → length (step_of i) ≡ 0) →
      length (core_steps acts m programs (low + k)) ≡ length (core_steps acts m programs low)
  none_between low zero none = ap (λ n. length (core_steps acts m programs n)) (omega arith)
  none_between low (suc k) none =
      let more = one_core_more (low + k) in
      let later = none_between low k (λ i past below. none i past (omega (arith, below))) in
      let here = none (low + k) (omega arith) (omega arith) in
      let next : low + suc k ≡ low + k + 1 = omega arith in
      ap (λ n. length (core_steps acts m programs n)) next ∙ omega (arith, more, later, here)

  module _ (cores ready left skipped : ℕ) (is : Left cores ready left skipped)
      (each : (core : ℕ) → core < cores → bit_at ready core ≡ length (step_of core)) where
    up_to : (high : ℕ) → is.from ≤ high → high ≤ cores → ((i : ℕ) → i < high → bit_at left i ≡ 0) →
        length (core_steps acts m programs high) ≡ skipped
    up_to high past within none =
        let sum : is.from + (high - is.from) ≡ high = omega (arith, past) in
        ap (λ n. length (core_steps acts m programs n)) (sym sum)
        ∙ none_between is.from (high - is.from) (λ i low below.
        sym (each i (omega (arith, below, within, past))) ∙ sym (is.same i low)
        ∙ none i (omega (arith, below, past)))
        ∙ is.counted

    -- the lowest bit that is left is that of the core that does something after so many others
    pub record Lowest (at : ℕ) : Type 0 where
      pub below : at < cores
      pub small : at < 64
      pub past : is.from ≤ at
      pub one : bit_at left at ≡ 1
      pub none : (i : ℕ) → i < at → bit_at left i ≡ 0
      pub counted : length (core_steps acts m programs at) ≡ skipped
      pub some : 0 < length (step_of at)

    lowest_at : (at : ℕ) → skipped < length (core_steps acts m programs cores) → at < 64 → bit_at left at ≡ 1 →
        ((i : ℕ) → i < at → bit_at left i ≡ 0) → Lowest at
    lowest_at at inside small one none =
        let past : is.from ≤ at = elim (cases_lt at is.from) [
          | inl before ↦ absurd (let gone = is.none at before in omega (arith, gone, one))
          | inr after ↦ after
        ] in
        let below : at < cores = elim (cases_lt at cores) [
          | inl here ↦ here
          | inr beyond ↦ absurd (let all = up_to cores is.within (omega arith)
              (λ i lt. none i (omega (arith, lt, beyond))) in omega (arith, all, inside))
        ] in
        let same = is.same at past in let has = each at below in record {
          below = below;
          small = small;
          past = past;
          one = one;
          none = none;
          counted = up_to at past (omega (arith, below)) none;
          some = omega (arith, same, has, one);
        }

    pub lowest : left < 2 ^ 64 → skipped < length (core_steps acts m programs cores) →
        Lowest (trailing_zeros w64 left)
    lowest fits inside = elim (cases_eq left 0) [
      | inl empty ↦ absurd (let all = up_to cores is.within (omega arith)
          (λ i lt. ap (λ n. bit_at n i) empty ∙ bit_at-zero i) in omega (arith, all, inside))
      | inr some ↦
          let low = bit_at-trailing_zeros w64 left (omega (arith, some)) fits in
          lowest_at (trailing_zeros w64 left) inside low.0 low.1 low.2
    ]

    -- once it is cleared, those of the cores behind it are left
    pub next_left : (at after : ℕ) → Lowest at → bit_at after at ≡ 0 →
        ((i : ℕ) → i ≢ at → bit_at after i ≡ bit_at left i) → Left cores ready after (skipped + 1)
    next_left at after low gone others = record {
      from = at + 1;
      within = omega (arith, low.below);
      counted = let more = one_core_more at in let has = each at low.below in let same = is.same at low.past in
          omega (arith, more, low.counted, has, same, low.one);
      none = λ i below. elim (cases_eq i at) [
        | inl e ↦ ap (bit_at after) e ∙ gone
        | inr other ↦ others i other ∙ low.none i (omega (arith, other, below))
      ];
      same = λ i past. others i (λ e. absurd (omega (arith, e, past))) ∙ is.same i (omega (arith, past, low.past));
    }

pub steps_count : {P : Type 0} (acts : Acts P) (m : Machine) (programs : List P) → length (steps acts m programs) ≡
    length (core_steps acts m programs m.config.cores) + length m.mail.messages
steps_count acts m programs =
    let f : ℕ → Choice = λ n. Delivers n in
    length-append (core_steps acts m programs m.config.cores) (map f (numbers_in_flight m))
    ∙ ap (λ k. length (core_steps acts m programs m.config.cores) + k) (length-map (numbers_in_flight m) f
    ∙ length-map m.mail.messages (λ message. message.0))

-- an entry of the steps, where the cores have so many: one of theirs, or a delivery
module _ {P : Type 0} (acts : Acts P) (m : Machine) (programs : List P) (b at count : ℕ)
    (counted : count ≡ length (core_steps acts m programs m.config.cores))
    (here : at ≡ b % (count + length m.mail.messages)) where
  total : length (steps acts m programs) ≡ count + length m.mail.messages
  total = omega (arith, counted, steps_count acts m programs)

  drawn : choice_at (steps acts m programs) b ≡ get_or (steps acts m programs) at Nothing
  drawn = ap (λ k. get_or (steps acts m programs) k Nothing) (ap (λ n. b % n) total ∙ sym here)

  pub step_drawn : (next : Choice) → slice_get (core_steps acts m programs m.config.cores) at ≡ Some next →
      choice_at (steps acts m programs) b ≡ next
  step_drawn next is =
      let xs = core_steps acts m programs m.config.cores in
      drawn ∙ get_or_append_left xs (map (λ n. Delivers n) (numbers_in_flight m)) Nothing at
      (slice_get_within xs at next is) ∙ get_or_from_slice_get xs at next Nothing is

  pub delivery_drawn : (number : ℕ) → count ≤ at → slice_get (numbers_in_flight m) (at - count) ≡ Some number →
      choice_at (steps acts m programs) b ≡ Delivers number
  delivery_drawn number past is =
      let xs = core_steps acts m programs m.config.cores in
      let f : ℕ → Choice = λ n. Delivers n in
      let behind : at ≡ length xs + (at - count) = omega (arith, past, counted) in
      drawn ∙ ap (λ k. get_or (steps acts m programs) k Nothing) behind
      ∙ get_or-append-add xs (map f (numbers_in_flight m)) (at - count) Nothing
      ∙ get_or-map f (numbers_in_flight m) (at - count) number Nothing
      (slice_get_within (numbers_in_flight m) (at - count) number is)
      ∙ ap f (get_or_from_slice_get (numbers_in_flight m) (at - count) number number is)

  pub is_in_flight : 0 < count + length m.mail.messages → count ≤ at →
      slice_get (numbers_in_flight m) (at - count) ≢ None
  is_in_flight some past none =
      let below = mod-lt b some in
      let long = length-map m.mail.messages (λ message. message.0) in
      let there = slice_get-get_or (numbers_in_flight m) (at - count) 0 (omega (arith, below, long, here, past)) in
      let bad = sym none ∙ there in absurd cc

-- memory was refused before a line's eviction
pub not_listed : {P W : Type 0} (acts : Acts P) (watches : Watches W) (choice : Choice) → is_eviction choice ≡ true →
    (p : Point P W) →
    IsRefused acts watches (chosen acts choice (standing p false)) p p
not_listed acts watches (Evicts e) is p = list_refused acts watches p (Does e ∷ [])
not_listed acts watches _ is p = absurd cc

-- other lists than the first three are those of steps
pub other_list : {P : Type 0} (acts : Acts P) (m : Machine) (programs : List P) (k : ℕ) → k ≢ 0 → k ≢ 1 → k ≢ 2 →
    steps acts m programs ≡ drawn_list acts m programs k
other_list acts m programs zero first second third = absurd (first refl)
other_list acts m programs (suc zero) first second third = absurd (second refl)
other_list acts m programs (suc (suc zero)) first second third = absurd (third refl)
other_list acts m programs (suc (suc (suc k))) first second third = refl
