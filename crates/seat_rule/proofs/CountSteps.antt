-- The steps on the last word keep the rule: a change by the seat alone, and a completion. So do the making and the
-- joining of seats.
use Rattle.std.proofs.Common.{◌≡◌, ◌≢◌, ℕ, zero, suc, ◌+◌, ◌*◌, ◌%◌, ◌^◌, ◌<◌, ◌≤◌, true, false, List, []}
use Rattle.std.proofs.Common.{◌∷◌, ◌++◌, length, get_or, Option, Some, sym, refl, ap, ◌∙◌, subst, arith, length-append}
use Rattle.std.proofs.Common.{rules, append_assoc, append-nil, mod-eq_of_lt, eq-eqb, ne_eqb}
use Rattle.std.proofs.lemmas.Bool.Decides.{nat_tests}
use Rattle.std.proofs.lemmas.Grind.{common_steps}
use Rattle.std.specs.Prelude.{slice_get}
use mathlib.Core.Option.{some}
use Rattle.std.proofs.lemmas.List.Elements.{filter-append}
use lib.ListN.{get_elem?}
use Rattle.atomic_table.specs.Table.{State, keeps, stepped, Allows, Splits, Joins}
use Rattle.atomic_table.proofs.Lists.{set_here}
use Rattle.physiological_order.specs.declared.operation.Op.{Op}
use Rattle.physiological_order.specs.declared.operation.Record.{Record}
use Rattle.physiological_order.specs.Order.{of_core}
use Rattle.network.specs.declared.message.Message.{Message}
use Rattle.core_pts.specs.declared.attempt.Attempt.TheVariants.{Completed}
use Rattle.core_pts.specs.CoreTable as core_table
use Rattle.core_pts.specs.CoreTable.{CoreState}
use Rattle.protocol.specs.Issued.{listed}
use Rattle.machine_table.specs.SetUp.{is_good}
use Rattle.machine_table.specs.Step.{record_of}
use Rattle.seat_views.specs.declared.views.View.{View}
use Rattle.seat_views.specs.Seated.{over, with_value_at, Shown, seat_view, with_hold, one_more, spent_view, knows}
use Rattle.seat_views.proofs.Lemmas.{put_here, at_put, within, shown_split, shown_join}
use Rattle.seat_rule.specs.declared.views.SetUp.{SetUp}
use Rattle.seat_rule.specs.declared.views.Hold.{Hold}
use Rattle.seat_rule.specs.StateLaws.{StateLaws}
use Rattle.seat_rule.specs.Rule.{bag_of_hold, opening_hold, no_hold, state_of, MovesReach, in_flight, IsPrefix}
use Rattle.seat_rule.specs.Rule.{RuleIsKept, Changes}
use Rattle.seat_rule.specs.Plays.{SeatState, Serves, stood, drawn, complete_hold, finished}
use Rattle.seat_rule.proofs.Frames.{old_is, seated, others, alone, whole_again, count_moves, standing_of}
use Rattle.seat_rule.proofs.SeatMoves.{completed}
use Rattle.seat_rule.proofs.Seats.{of_all, counts_issued}

abbrev Sets : Type 0
Sets = State (Option Message) (View Hold)

of_core_more : (j : ℕ) (xs : List Record) (r : Record) → r.core ≡ j →
    of_core j (xs ++ r ∷ []) ≡ of_core j xs ++ r ∷ []
of_core_more j xs r e = grind (arith, nat_tests, common_steps, eq-eqb, filter-append)

of_core_same : (j : ℕ) (xs : List Record) (r : Record) → r.core ≢ j → of_core j (xs ++ r ∷ []) ≡ of_core j xs
of_core_same j xs r ne = grind (arith, nat_tests, common_steps, append-nil, filter-append, ne_eqb)

prefix_longer : (xs ys : List Record) (r : Record) → IsPrefix xs ys → IsPrefix xs (ys ++ r ∷ [])
prefix_longer xs ys r p = (p.0 ++ r ∷ [], ap (λ y. y ++ r ∷ []) p.1 ∙ append_assoc xs p.0 (r ∷ []))

few_records : (n : ℕ) (f : ℕ → Hold) → ((j : ℕ) → length (f j).records < 2 ^ 32) →
    over n (λ j. length (f j).records) ≤ n * 2 ^ 32
few_records zero f b = omega arith
few_records (suc n) f b = let a = few_records n f b in let c = b n in omega arith

module _ (z : SetUp) (n : ℕ) (from to : ℕ → ℕ) (slots : ℕ) where
  abbrev K : Sets → Type 0
  K = RuleIsKept z n from to slots

  -- other views of the same
  reshown : (s : Sets) (r : K s) {views : List (View Hold)} → Shown (opening_hold z) n views r.seats →
      K (record { words = s.words; homes = s.homes; views = views })
  reshown s r shown = search (rules, r, shown)

  -- a change by the seat alone: 0 is added to the last word
  pub serves : (id : ℕ) (me : SeatState) (h : Hold) → me.0.spent ≡ false → Serves me.0.mine h →
      Changes z n me.0.number me.0.mine h →
      Allows K slots id me slots (λ x. (x + 0) % 2 ^ 64) (λ _. stood z n (with_hold me.0 h) me)
  serves id me h live p change s r wide at fits =
      let v = me.0 in
      let w : View Hold = with_hold v h in
      let is : r.seats id ≡ v.mine = old_is z n from to slots s r id v at live in
      let here : Changes z n id v.mine h =
      subst (λ j. Changes z n j v.mine h) (r.shown.number id v at live) change in
      let x : ℕ = get_or s.words slots 0 in
      let same : (x + 0) % 2 ^ 64 ≡ x = ap (λ y. y % 2 ^ 64) (omega arith) ∙ mod-eq_of_lt fits in
      let kept : K (stepped s slots ((x + 0) % 2 ^ 64) id me.1 w keeps) =
      count_moves z n from to slots s r id v at live h ((x + 0) % 2 ^ 64) r.log (same ∙ r.count) p.0 p.1 p.2
      (here r.seats (others z n from to slots s r id v at live) r.log is (alone z n from to slots s r id v at live))
      (λ j.
      at_put r.seats id h (λ i g. IsPrefix g.seen r.log) j
      (subst (λ y. IsPrefix y r.log) (ap (λ (g : Hold). g.seen) is ∙ sym p.4) (r.seen id)) (λ _. r.seen j))
      (ap (λ y. length r.log + length y) (sym p.3))
      (subst (λ (y : List Record). length y < 2 ^ 32) (ap (λ (g : Hold). g.records) is ∙ sym p.3) (r.bounded id))
      (λ j.
      at_put r.seats id h (λ i g. of_core i r.log ≡ g.records) j (r.own id ∙ ap (λ (g : Hold). g.records) is ∙ sym p.3)
      (λ _. r.own j)) in (
        w,
        keeps,
        tt,
        kept,
        (
          refl,
          refl,
          standing_of z n from to slots _ id w kept (set_here s.views id w (within s.views id v at)) live,
        ),
      )

  -- a completion: 1 is added to the last word, which counts the records
  module _ (laws : StateLaws) (good : is_good z.config ≡ true) (small : n ≤ 1000) (op : Op) (received : Option ℕ)
      (ts : ℕ) (core : CoreState) (id : ℕ) (me : SeatState) (is_core : me.0.number < z.config.cores)
      (live : me.0.spent ≡ false) (opened : me.0.mine.core.open_op ≡ Some op)
      (attempted : core_table.attempt me.0.mine.core ≡ (Some (Completed received ts), core))
      (few : me.0.mine.core.issued < 2 ^ 32) (s : Sets) (r : K s) (at : get_elem? s.views id ≡ some me.0)
      (fits : get_or s.words slots 0 < 18446744073709551616) where
    abbrev v : View Hold
    v = me.0

    named : v.number ≡ id
    named = r.shown.number id v at live

    is : r.seats id ≡ v.mine
    is = old_is z n from to slots s r id v at live

    abbrev x : ℕ
    x = get_or s.words slots 0

    abbrev new : Record
    new = drawn me op received ts x

    abbrev log : List Record
    log = r.log ++ new ∷ []

    abbrev h : Hold
    h = complete_hold v.mine core r.log new

    -- the seat counts its records and the open operation
    counted : v.mine.core.issued ≡ length v.mine.records + 1
    counted =
        let stands = standing_of z n from to slots s id v r at live in
        let e = counts_issued laws z good n v.number v.mine stands is_core in
        let one : length (listed v.mine.core.open_op) ≡ 1 = ap (λ o. length (listed o)) opened in
        omega arith

    reaches : MovesReach z n (with_value_at r.seats id h) (bag_of_hold v.mine ++ others z n from to slots s r id
        v at live) log
    reaches =
        let rest : List Message = others z n from to slots s r id v at live in
        let seat : id < n = seated z n from to slots s r id v at live in
        subst (λ (y : Hold × ℕ × ℕ).
        let w : Record = record_of y.1 y.2 y.0.core op received ts in
        MovesReach z n (with_value_at r.seats id (complete_hold y.0 core r.log w)) (bag_of_hold y.0 ++ rest)
        (r.log ++ w ∷ []))
        (λ i. (is i, sym named i, sym r.count i))
        (completed z n r.seats rest r.log id seat op received ts core
        (subst (λ j. j < z.config.cores) named is_core) (ap (λ (g : Hold). g.core.open_op) is ∙ opened)
        (ap (λ (g : Hold). core_table.attempt g.core) is ∙ attempted)
        (subst (λ (g : Hold). MovesReach z n r.seats (bag_of_hold g ++ rest) r.log) (sym is)
        (alone z n from to slots s r id v at live)))

    whole : MovesReach z n (with_value_at r.seats id h) (in_flight n slots (with_value_at r.seats id h) r.phases) log
    whole = whole_again z n from to slots s r id v at live h log reaches

    own_before : of_core id r.log ≡ v.mine.records
    own_before = r.own id ∙ ap (λ (g : Hold). g.records) is

    own : of_core id log ≡ v.mine.records ++ new ∷ []
    own = of_core_more id r.log new named ∙ ap (λ y. y ++ new ∷ []) own_before

    next : (x + 1) % 2 ^ 64 ≡ length log
    next = grind (arith, nat_tests, common_steps, few_records, length-append, mod-eq_of_lt)

    kept : K (stepped s slots ((x + 1) % 2 ^ 64) id me.1 (with_hold v h) keeps)
    kept =
        let longer = length-append v.mine.records (new ∷ []) in
        let more = length-append r.log (new ∷ []) in
        let held = counted in
        count_moves z n from to slots s r id v at live h ((x + 1) % 2 ^ 64) log next refl refl refl reaches
        (λ j.
        at_put r.seats id h (λ i g. IsPrefix g.seen log) j ([], sym (append-nil log))
        (λ _. prefix_longer (r.seats j).seen r.log new (r.seen j)))
        (omega arith) (omega arith)
        (λ j.
        at_put r.seats id h (λ i g. of_core i log ≡ g.records) j own
        (λ ne. of_core_same j r.log new (λ e. ne (sym (sym named ∙ e))) ∙ r.own j))

    -- each earlier record of the seat is one of those before
    above : (k : ℕ) (earlier : Record) → slice_get v.mine.records k ≡ Some earlier → earlier.number < x
    above k earlier e =
        let at_log = of_all id r.log k earlier (ap (λ rs. slice_get rs k) own_before ∙ e) in
        let number = laws.in_order z.config z.memory (state_of z n r.seats (in_flight n slots r.seats r.phases) r.log)
        good r.reached at_log.0 earlier at_log.2 in
        let c = r.count in
        let l = at_log.1 in
        omega arith

    what_is_known : finished z n core op received ts me x (with_hold v h, me.1)
    what_is_known =
        record {
          log = r.log;
          number = sym r.count;
          begins = subst (λ y. IsPrefix y r.log) (ap (λ (g : Hold). g.seen) is) (r.seen id);
          above = above;
          place = let c = counted in omega arith;
          legal = (
            (λ c. (with_value_at r.seats id h c).issued),
            ap (λ y. (with_value_at r.seats id h y).issued) named ∙ ap (λ (g : Hold). g.issued) (put_here r.seats id h),
            (laws.consistent z.config z.memory
                (state_of z n (with_value_at r.seats id h) (in_flight n slots (with_value_at r.seats id h) r.phases)
                log) good whole).legal,
          );
          own = subst (λ j. of_core j log ≡ v.mine.records ++ new ∷ []) (sym named) own;
          by_number = laws.in_order z.config z.memory
              (state_of z n (with_value_at r.seats id h) (in_flight n slots (with_value_at r.seats id h) r.phases) log)
              good whole;
          view = refl;
          carried = refl;
          standing =
              standing_of z n from to slots _ id (with_hold v h) kept
              (set_here s.views id (with_hold v h) (within s.views id v at)) live;
        }

  pub completing : StateLaws → is_good z.config ≡ true → n ≤ 1000 →
      (id : ℕ) (me : SeatState) (op : Op) (received : Option ℕ) (ts : ℕ) (core : CoreState) →
      me.0.number < z.config.cores → me.0.spent ≡ false → me.0.mine.core.open_op ≡ Some op →
      core_table.attempt me.0.mine.core ≡ (Some (Completed received ts), core) → me.0.mine.core.issued < 2 ^ 32 →
      Allows K slots id me slots (λ x. (x + 1) % 2 ^ 64) (finished z n core op received ts me)
  completing laws good small id me op received ts core is_core live opened attempted few s r wide at fits = (
    with_hold me.0 (h laws good small op received ts core id me is_core live opened attempted few s r at fits),
    keeps,
    tt,
    kept laws good small op received ts core id me is_core live opened attempted few s r at fits,
    what_is_known laws good small op received ts core id me is_core live opened attempted few s r at fits,
  )

  -- the first seat makes another
  pub splitting : (id : ℕ) (v : View Hold) → v.spent ≡ false → 0 < v.made → v.made < n →
      Splits K id v (one_more v) (seat_view v.made (opening_hold z v.made))
  splitting id v live pos room s r at =
      reshown s r (shown_split Hold (opening_hold z) n s.views r.seats id v r.shown at live pos room)

  -- a seat is joined to another
  pub joining : (id : ℕ) (v : View Hold) (other : ℕ) (u : View Hold) → v.spent ≡ false → u.spent ≡ false →
      Joins K id v other u (knows v u) (spent_view no_hold)
  joining id v other u live lives s r at two there =
      reshown s r
      (shown_join Hold (opening_hold z) no_hold n s.views r.seats id v other u r.shown at live two there lives)
