-- Each step of a signaler keeps the rule, and the rule holds at the opening.
use Rattle.std.proofs.Common.{◌≡◌, ℕ, zero, suc, ◌+◌, ◌*◌, ◌%◌, ◌^◌, ◌<◌, ◌≤◌, true, false, eqb}
use Rattle.std.proofs.Common.{List, [], ◌∷◌, ◌++◌, length, get_or, set, ◌⊎◌, inl, inr, ⊎_elim, sym, refl, ap, ◌∙◌}
use Rattle.std.proofs.lemmas.Bool.{eqb-true}
use Rattle.std.proofs.Common.{subst, arith, rules, length-set, get_or-set_same, mod-eq_of_lt, bit_or}
use mathlib.Core.Option.{some}
use lib.ListN.{get_elem?}
use Rattle.atomic_table.specs.Table.{State, Me, keeps, Allows, Splits, Joins, opening}
use Rattle.seat_views.specs.declared.views.View.{View}
use Rattle.seat_views.specs.Seated.{over, with_value_at, with_hold, Shown, one_more, knows, seat_view, spent_view}
use Rattle.seat_views.specs.Seated.{first_view}
use Rattle.seat_views.proofs.Lemmas.{within, shown_first, shown_set, shown_split, shown_join, at_put, over_put}
use Rattle.seat_views.proofs.Lemmas.{put_here}
use Rattle.stop_flags.specs.declared.words.Look.{Look}
use Rattle.stop_flags.specs.declared.words.Said.{Said}
use Rattle.stop_flags.specs.declared.words.Voice.{Voice}
use Rattle.stop_flags.specs.Told.{nothing, voice, one_finished, has_stopped, in_all, FinishedInAll, SomeStopped}
use Rattle.stop_flags.specs.Told.{FlagsHold}
use Rattle.stop_flags.specs.Told.{told_finished, told_stopped, heard_finished, heard_stopped}

abbrev V : Type 0
V = View Voice

abbrev S : Type 0
S = State (Unit {0}) V

few_in_all : (m : ℕ) (f : ℕ → Voice) → ((j : ℕ) → (f j).said.finished ≤ 4294967296) →
    in_all m (λ j. (f j).said) ≤ m * 4294967296
few_in_all zero f b = omega arith
few_in_all (suc m) f b = let a = few_in_all m f b in let c = b m in omega arith

zeros : (m : ℕ) → over m (λ j. 0) ≡ 0
zeros zero = refl
zeros (suc m) = let a = zeros m in omega arith

-- a word is as before where the other one is written
other_word : (l : List ℕ) (x : ℕ) → get_or (set l 0 x) 1 0 ≡ get_or l 1 0
other_word [] x = refl
other_word (y ∷ ys) x = refl

first_word : (l : List ℕ) (x : ℕ) → get_or (set l 1 x) 0 0 ≡ get_or l 0 0
first_word [] x = refl
first_word (y ∷ ys) x = refl

-- a word of 0 or 1 is 1 once its bit is set
rung_bit : (x : ℕ) → (x ≡ 0) ⊎ (x ≡ 1) → bit_or x 1 ≡ 1
rung_bit x b = ⊎_elim (λ e. ap (λ z. bit_or z 1) e) (λ e. ap (λ z. bit_or z 1) e) b

module _ (n : ℕ) where
  -- what is known of the seat that steps
  module _ (s : S) (r : FlagsHold n s) (id : ℕ) (v : V) (at : get_elem? s.views id ≡ some v)
      (live : v.spent ≡ false) where
    is : r.voices id ≡ v.mine
    is = r.shown.mine id v at live

    finished_is : (r.voices id).said.finished ≡ v.mine.said.finished
    finished_is = ap (λ (h : Voice). h.said.finished) is

    stops_is : (r.voices id).said.stops ≡ v.mine.said.stops
    stops_is = ap (λ (h : Voice). h.said.stops) is

    workers_is : v.mine.workers ≡ n
    workers_is = ap (λ (h : Voice). h.workers) (sym is) ∙ r.counted id

    seat : id < n
    seat = let a = within s.views id v at in let b = r.shown.few in omega arith

    own_few : v.mine.said.finished ≤ 4294967296
    own_few = search rules

    own_within : v.mine.said.finished ≤ get_or s.words 0 0
    own_within =
        let b = over_put n (λ (h : Voice). h.said.finished) r.voices id (voice n nothing) seat in
        let t = r.total in
        let q = finished_is in
        omega arith

    finished_in_all : FinishedInAll v.mine.workers v.mine.said (get_or s.words 0 0)
    finished_in_all = search (rules, workers_is, seat, is)

    some_stopped : get_or s.words 1 0 ≡ 1 → SomeStopped v.mine.workers v.mine.said
    some_stopped e =
        let b = r.by_some e in
        subst (λ k. SomeStopped k v.mine.said) (sym workers_is)
        record {
          said = λ j. (r.voices j).said;
          seat = id;
          among = seat;
          mine = ap (λ (h : Voice). h.said) is;
          by = b.0;
          one_of_them = b.1;
          stopped = b.2;
        }

    -- the seat now has said h and found l, and the words are these, of which none has fallen
    told_after : (h : Said) (l : Look) (words : List ℕ) → length words ≡ 2 →
        get_or words 0 0 + v.mine.said.finished ≡ get_or s.words 0 0 + h.finished → h.finished ≤ 4294967296 →
        (get_or words 1 0 ≡ get_or s.words 1 0) × (h.stops ≡ v.mine.said.stops)
        ⊎ (get_or words 1 0 ≡ 1) × (h.stops ≡ true) → get_or s.words 0 0 ≤ get_or words 0 0 →
        l.finished ≤ get_or words 0 0 → (l.is_stopped ≡ true → get_or words 1 0 ≡ 1) →
        FlagsHold n (record {
          words = words;
          homes = s.homes;
          views = set s.views id (with_hold v (record { said = h; heard = l; workers = v.mine.workers }));
        })
    told_after h l words long sum few bit more found stopped =
        let w : Voice = record { said = h; heard = l; workers = v.mine.workers } in
        record {
          voices = with_value_at r.voices id w;
          shown = shown_set Voice (λ _. voice n nothing) n s.views r.voices id v w r.shown at live;
          two_words = long;
          few = r.few;
          counted = λ j. at_put r.voices id w (λ i g. g.workers ≡ n) j workers_is (λ _. r.counted j);
          total =
              let b = over_put n (λ (g : Voice). g.said.finished) r.voices id w seat in
              let t = r.total in
              let q = finished_is in
              let g : over n (λ j. (with_value_at r.voices id w j).said.finished) ≡ get_or words 0 0 = omega arith in
              g;
          bounded = λ j. at_put r.voices id w (λ i g. g.said.finished ≤ 4294967296) j few (λ _. r.bounded j);
          one_bit =
              ⊎_elim
              (λ x. ⊎_elim (λ y. inl (x.0 ∙ y)) (λ y. inr (x.0 ∙ y)) r.one_bit)
              (λ x. inr x.0)
              bit;
          rung = λ j.
              ⊎_elim
              (λ x.
              at_put r.voices id w (λ i g. g.said.stops ≡ true → get_or words 1 0 ≡ 1) j
              (λ e. x.0 ∙ r.rung id (stops_is ∙ sym x.1 ∙ e))
              (λ _ e. x.0 ∙ r.rung j e))
              (λ x _. x.0)
              bit;
          by_some = λ e.
              ⊎_elim
              (λ x.
              let b = r.by_some (sym x.0 ∙ e) in (
                b.0,
                b.1,
                at_put r.voices id w (λ i g. (r.voices i).said.stops ≡ true → g.said.stops ≡ true) b.0
                    (λ t. x.1 ∙ sym stops_is ∙ t)
                    (λ _ t. t)
                    b.2,
              ))
              (λ x. (id, seat, ap (λ (g : Voice). g.said.stops) (put_here r.voices id w) ∙ x.1))
              bit;
          heard_finished = λ j.
              at_put r.voices id w (λ i g. g.heard.finished ≤ get_or words 0 0) j found
              (λ _. let a = r.heard_finished j in omega arith);
          heard_stopped = λ j.
              at_put r.voices id w (λ i g. g.heard.is_stopped ≡ true → get_or words 1 0 ≡ 1) j stopped
              (λ _ e. ⊎_elim (λ x. x.0 ∙ r.heard_stopped j e) (λ x. x.0) bit);
        }

    -- what the seat found when it last looked
    own_found : v.mine.heard.finished ≤ get_or s.words 0 0
    own_found = let a = r.heard_finished id in let e = ap (λ (h : Voice). h.heard.finished) is in omega arith

    own_stopped : v.mine.heard.is_stopped ≡ true → get_or s.words 1 0 ≡ 1
    own_stopped e = r.heard_stopped id (ap (λ (h : Voice). h.heard.is_stopped) is ∙ e)

  module _ (slots id : ℕ) (me : Me (Unit {0}) V) (live : me.0.spent ≡ false) where
    pub finishes : me.0.mine.said.finished < 4294967296 →
        Allows (FlagsHold n) slots id me 0 (λ x. (x + 1) % 2 ^ 64) (λ _. told_finished me)
    finishes room s r wide at fits =
        let v = me.0 in
        let x : ℕ = get_or s.words 0 0 in
        let w = few_in_all n r.voices r.bounded in
        let t = r.total in
        let two = r.two_words in
        let small = r.few in
        let e : (x + 1) % 2 ^ 64 ≡ x + 1 = mod-eq_of_lt (omega arith) in
        let words : List ℕ = set s.words 0 ((x + 1) % 2 ^ 64) in
        let word : get_or words 0 0 ≡ x + 1 = get_or-set_same s.words 0 ((x + 1) % 2 ^ 64) 0 (omega arith) ∙ e in (
          with_hold v (record v.mine { said = one_finished v.mine.said }),
          keeps,
          tt,
          told_after s r id v at live (one_finished v.mine.said) v.mine.heard words
              (length-set s.words 0 ((x + 1) % 2 ^ 64) ∙ two)
              (omega arith)
              (omega arith)
              (inl (other_word s.words ((x + 1) % 2 ^ 64), refl))
              (omega arith)
              (let found = own_found s r id v at live in omega arith)
              (λ e. other_word s.words ((x + 1) % 2 ^ 64) ∙ own_stopped s r id v at live e),
          (refl, refl),
        )

    pub stops : Allows (FlagsHold n) slots id me 1 (λ x. bit_or x 1) (λ _. told_stopped me)
    stops s r wide at fits =
        let v = me.0 in
        let x : ℕ = bit_or (get_or s.words 1 0) 1 in
        let two = r.two_words in
        let words : List ℕ = set s.words 1 x in
        let word : get_or words 1 0 ≡ 1 =
        get_or-set_same s.words 1 x 0 (omega arith) ∙ rung_bit (get_or s.words 1 0) r.one_bit in
        let same : get_or words 0 0 ≡ get_or s.words 0 0 = first_word s.words x in
        let said = own_few s r id v at live in (
          with_hold v (record v.mine { said = has_stopped v.mine.said }),
          keeps,
          tt,
          told_after s r id v at live (has_stopped v.mine.said) v.mine.heard words
              (length-set s.words 1 x ∙ two)
              (omega arith)
              said
              (inr (word, refl))
              (omega arith)
              (let found = own_found s r id v at live in omega arith)
              (λ e. word),
          (refl, refl),
        )

    -- a word that is read is written back as it was
    heard : (s : S) (r : FlagsHold n s) → get_elem? s.views id ≡ some me.0 → (l : Look) (words : List ℕ) →
        length words ≡ 2 → get_or words 0 0 ≡ get_or s.words 0 0 → get_or words 1 0 ≡ get_or s.words 1 0 →
        l.finished ≤ get_or s.words 0 0 → (l.is_stopped ≡ true → get_or s.words 1 0 ≡ 1) →
        FlagsHold n (record {
          words = words;
          homes = s.homes;
          views = set s.views id (with_hold me.0 (record me.0.mine { heard = l }));
        })
    heard s r at l words long first second found stopped =
        let v = me.0 in
        let said = own_few s r id v at live in
        told_after s r id v at live v.mine.said l words long (omega arith) said (inl (second, refl)) (omega arith)
        (omega arith) (λ e. second ∙ stopped e)

    pub hears_finished : Allows (FlagsHold n) slots id me 0 (λ x. x) (heard_finished me)
    hears_finished s r wide at fits =
        let v = me.0 in
        let x : ℕ = get_or s.words 0 0 in
        let l : Look = record v.mine.heard { finished = x } in
        let two = r.two_words in (
          with_hold v (record v.mine { heard = l }),
          keeps,
          tt,
          heard s r at l (set s.words 0 x) (length-set s.words 0 x ∙ two)
              (get_or-set_same s.words 0 x 0 (omega arith))
              (other_word s.words x)
              (omega arith)
              (own_stopped s r id v at live),
          ((refl, refl), own_within s r id v at live, finished_in_all s r id v at live),
        )

    pub hears_stopped : Allows (FlagsHold n) slots id me 1 (λ x. x) (heard_stopped me)
    hears_stopped s r wide at fits =
        let v = me.0 in
        let x : ℕ = get_or s.words 1 0 in
        let l : Look = record v.mine.heard { is_stopped = eqb x 1 } in
        let two = r.two_words in (
          with_hold v (record v.mine { heard = l }),
          keeps,
          tt,
          heard s r at l (set s.words 1 x) (length-set s.words 1 x ∙ two)
              (first_word s.words x)
              (get_or-set_same s.words 1 x 0 (omega arith))
              (own_found s r id v at live)
              (eqb-true x 1),
          (
            (refl, refl),
            (λ e. r.rung id (stops_is s r id v at live ∙ e)),
            some_stopped s r id v at live,
          ),
        )

  pub splitting : (id : ℕ) (v : V) → v.spent ≡ false → 0 < v.made → v.made < n →
      Splits (FlagsHold n) id v (one_more v) (seat_view v.made (voice v.mine.workers nothing))
  splitting id v live pos room s r at =
      let shown : Shown (λ _. voice n nothing) n
      (set s.views id (one_more v) ++ seat_view v.made (voice v.mine.workers nothing) ∷ []) r.voices =
      subst (λ k. Shown (λ _. voice n nothing) n
      (set s.views id (one_more v) ++ seat_view v.made (voice k nothing) ∷ []) r.voices)
      (sym (workers_is s r id v at live))
      (shown_split Voice (λ _. voice n nothing) n s.views r.voices id v r.shown at live pos room) in
      search rules

  pub joining : (id : ℕ) (v : V) (other : ℕ) (u : V) → v.spent ≡ false → u.spent ≡ false →
      Joins (FlagsHold n) id v other u (knows v u) (spent_view (voice 0 nothing))
  joining id v other u live lives s r at two at' =
      let shown = shown_join Voice (λ _. voice n nothing) (voice 0 nothing) n s.views r.voices id v other u r.shown at
      live two at' lives in
      search (rules, r, shown)

  pub opens : 0 < n → n ≤ 16 → FlagsHold n (opening (0 ∷ 0 ∷ []) [] (first_view (voice n nothing)))
  opens pos small =
      let shown = shown_first Voice (λ _. voice n nothing) n pos in
      let total : in_all n (λ j. (voice n nothing).said) ≡ 0 = zeros n in
      search (rules, shown, total)
