-- Each step of a drawer keeps the rule, and the rule holds at the opening.
use Rattle.std.proofs.Common.{◌≡◌, ℕ, zero, suc, ◌+◌, ◌%◌, ◌^◌, ◌<◌, ◌≤◌, false, List, [], ◌∷◌, ◌++◌}
use Rattle.std.proofs.Common.{length, get_or, set, sym, refl, ap, ◌∙◌, subst, arith, length-set}
use Rattle.std.proofs.Common.{length-append, get_or-set_same, mod-eq_of_lt}
use mathlib.Core.Option.{some, some-injective, some-ne-none}
use lib.ListN.{get_elem?}
use Rattle.atomic_table.specs.Table.{Me, keeps, Allows, Splits, Joins, opening}
use Rattle.seat_views.specs.declared.views.View.{View}
use Rattle.seat_views.specs.Seated.{over, with_value_at, with_hold, one_more, knows, seat_view, spent_view, first_view}
use Rattle.seat_views.proofs.Lemmas.{within, shown_set, shown_split, shown_join, at_put, over_put}
use Rattle.drawn_numbers.specs.Drawn.{times, RisesFrom, AllBelow, once_below, no_numbers, Drawn, drew}
use Rattle.drawn_numbers.proofs.Lists.{times_snoc, rises_snoc, below_more, below_snoc, one_more_below, none_below}
use Rattle.drawn_numbers.proofs.Lists.{few_in_all, zeros}

abbrev V : Type 0
V = View (List ℕ)

module _ (n : ℕ) where
  pub draws : (slots id : ℕ) (me : Me (Unit {0}) V) → me.0.spent ≡ false → length me.0.mine < 4294967296 →
      Allows (Drawn n) slots id me 0 (λ x. (x + 1) % 2 ^ 64) (drew me)
  draws slots id me live room s r wide at fits =
      let v = me.0 in
      let x : ℕ = get_or s.words 0 0 in
      let is : r.drawn id ≡ v.mine = r.shown.mine id v at live in
      let h : List ℕ = v.mine ++ x ∷ [] in
      let seat : id < n = (let a = within s.views id v at in let b = r.shown.few in omega arith) in
      let w = few_in_all n r.drawn r.bounded in
      let t = r.total in
      let one = r.one_word in
      let small = r.few in
      let e : (x + 1) % 2 ^ 64 ≡ x + 1 = mod-eq_of_lt (omega arith) in
      let word : get_or (set s.words 0 ((x + 1) % 2 ^ 64)) 0 0 ≡ x + 1 =
      get_or-set_same s.words 0 ((x + 1) % 2 ^ 64) 0 (omega arith) ∙ e in
      let long : length h ≡ length v.mine + 1 = length-append v.mine (x ∷ []) in
      let own = subst (λ z. RisesFrom 0 z × AllBelow x z) is (r.rising id) in (
        with_hold v h,
        keeps,
        tt,
        record {
          drawn = with_value_at r.drawn id h;
          shown = shown_set (List ℕ) no_numbers n s.views r.drawn id v h r.shown at live;
          one_word = length-set s.words 0 ((x + 1) % 2 ^ 64) ∙ r.one_word;
          few = r.few;
          dealt = λ y.
              let a = r.dealt y in
              let b = over_put n (times y) r.drawn id h seat in
              let c = times_snoc y v.mine x in
              let d = one_more_below y x in
              let q : times y (r.drawn id) ≡ times y v.mine = ap (times y) is in
              let goal : over n (λ j. times y (with_value_at r.drawn id h j)) ≡ once_below y (x + 1) = omega arith in
              goal ∙ ap (once_below y) (sym word);
          rising = λ j.
              subst (λ z. RisesFrom 0 (with_value_at r.drawn id h j) × AllBelow z (with_value_at r.drawn id h j))
              (sym word)
              (at_put r.drawn id h (λ i g. RisesFrom 0 g × AllBelow (x + 1) g) j
              (rises_snoc 0 v.mine x (omega arith) own.0 own.1, below_snoc x v.mine own.1)
              (λ _. ((r.rising j).0, below_more x (r.drawn j) (r.rising j).1)));
          total = (
              let b = over_put n (length {A = ℕ}) r.drawn id h seat in
              let q : length (r.drawn id) ≡ length v.mine = ap length is in
              let g : over n (λ j. length (with_value_at r.drawn id h j)) ≡ x + 1 = omega arith in
              g) ∙ sym word;
          bounded = λ j.
              at_put r.drawn id h (λ i g. length g ≤ 4294967296) j (omega arith) (λ _. r.bounded j);
        },
        (refl, refl, own.1),
      )

  pub splitting : (id : ℕ) (v : V) → v.spent ≡ false → 0 < v.made → v.made < n →
      Splits (Drawn n) id v (one_more v) (seat_view v.made [])
  splitting id v live pos room s r at =
      record {
        drawn = r.drawn;
        shown = shown_split (List ℕ) no_numbers n s.views r.drawn id v r.shown at live pos room;
        one_word = r.one_word;
        few = r.few;
        dealt = r.dealt;
        rising = r.rising;
        total = r.total;
        bounded = r.bounded;
      }

  pub joining : (id : ℕ) (v : V) (other : ℕ) (u : V) → v.spent ≡ false → u.spent ≡ false →
      Joins (Drawn n) id v other u (knows v u) (spent_view [])
  joining id v other u live lives s r at two at' =
      record {
        drawn = r.drawn;
        shown = shown_join (List ℕ) no_numbers [] n s.views r.drawn id v other u r.shown at live two at' lives;
        one_word = r.one_word;
        few = r.few;
        dealt = r.dealt;
        rising = r.rising;
        total = r.total;
        bounded = r.bounded;
      }

  at_first : (v u : V) (j : ℕ) → get_elem? (v ∷ []) j ≡ some u → (j ≡ 0) × (v ≡ u)
  at_first v u zero e = (refl, some-injective v u e)
  at_first v u (suc j) e = absurd (some-ne-none u (sym e))

  -- the first view knows nobody
  knows_none : {B : Type 0} → (v : V) (j q : ℕ) (p : ℕ × List ℕ) → get_elem? (first_view [] ∷ []) j ≡ some v →
      get_elem? v.known q ≡ some p → B
  knows_none v j q p e k =
      let a = at_first (first_view []) v j e in
      absurd (some-ne-none p (sym (ap (λ (y : V). get_elem? y.known q) a.1 ∙ k)))

  pub opens : 0 < n → n ≤ 16 → Drawn n (opening (0 ∷ []) [] (first_view []))
  opens pos small =
      record {
        drawn = no_numbers;
        shown = record {
          few = omega arith;
          number = λ j v e _.
              let a = at_first (first_view []) v j e in
              ap (λ (y : V). y.number) (sym a.1) ∙ sym a.0;
          mine = λ j v e _. let a = at_first (first_view []) v j e in ap (λ (y : V). y.mine) a.1;
          known = λ j v e q p k. knows_none v j q p e k;
          once = λ j v e q q' p p' k k' same. knows_none v j q p e k;
          made = λ j v e _.
              let a = at_first (first_view []) v j e in
              (a.0, ap (λ (y : V). y.made) (sym a.1));
          later = λ j le. refl;
        };
        one_word = refl;
        few = small;
        dealt = λ x. zeros n ∙ sym (none_below x);
        rising = λ j. (tt, tt);
        total = zeros n;
        bounded = λ j. omega arith;
      }
