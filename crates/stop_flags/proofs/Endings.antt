-- What the last state tells of all signalers, which were joined to the last of them.
use Rattle.std.proofs.Common.{◌≡◌, ℕ, zero, suc, ◌+◌, Bool, true, List, [], ◌∷◌, ◌++◌, length, Some}
use Rattle.std.proofs.Common.{sym, refl, ap, ◌∙◌, arith, ⊎_elim}
use Rattle.std.proofs.lemmas.Bool.{or_left, or_right}
use Rattle.std.specs.Prelude.{slice_get, slice_index_or}
use Rattle.std.specs.List.{list_any}
use Rattle.atomic_table.specs.Table.{Final, Seen}
use Rattle.seat_views.specs.declared.views.View.{View}
use Rattle.seat_views.specs.Seated.{over}
use Rattle.std.proofs.lemmas.Option.{slice_get-get_or}
use Rattle.seat_views.proofs.Lemmas.{at_more, backwards_has, get_snoc, some_is}
use Rattle.stop_flags.specs.declared.signaler.Signaler.{Signaler}
use Rattle.stop_flags.specs.declared.words.Said.{Said}
use Rattle.stop_flags.specs.declared.words.Voice.{Voice}
use Rattle.stop_flags.specs.Heard.{AllHeard, entries_of, entry_of, finished_by, knows_all}
use Rattle.stop_flags.specs.Signalers.{number_of}
use Rattle.stop_flags.specs.Told.{FlagsHold, in_all}

-- what passes a test, at an index
one_passes : {A : Type 0} → (test : A → Bool) (xs : List A) (i : ℕ) (x : A) → slice_get xs i ≡ Some x →
    test x ≡ true → list_any test xs ≡ true
one_passes test [] i x e is = cc
one_passes test (y ∷ ys) zero x e is = or_left (test y) (list_any test ys) (ap test (some_is e) ∙ is)
one_passes test (y ∷ ys) (suc i) x e is = or_right (test y) (list_any test ys) (one_passes test ys i x e is)

-- a sum by number, with its first number apart
over_first : (n : ℕ) (f : ℕ → ℕ) → over (suc n) f ≡ f zero + over n (λ j. f (suc j))
over_first zero f = omega arith
over_first (suc n) f = let a = over_first n f in omega arith

-- a sum by number is that of a list
over_list : (ss : List Signaler) (f : ℕ → ℕ) →
    ((i : ℕ) (s : Signaler) → slice_get ss i ≡ Some s → f i ≡ s.said.finished) → over (length ss) f ≡ finished_by ss
over_list [] f each = refl
over_list (s ∷ ss) f each =
    let first = each zero s refl in
    let rest = over_list ss (λ j. f (suc j)) (λ i x e. each (suc i) x e) in
    let apart = over_first (length ss) f in
    omega arith

module _ (n id : ℕ) (all rest : List Signaler) (last : Signaler) (words : List ℕ) (nothing : List (Unit {0}))
    (split : all ≡ rest ++ last ∷ []) (long : length all ≡ n)
    (numbers : (i : ℕ) (s : Signaler) → slice_get all i ≡ Some s → number_of s ≡ i)
    (end : Final (Seen (FlagsHold n) id (knows_all last.seat.me.0 rest)) words nothing) where
  abbrev v : View Voice
  v = last.seat.me.0

  abbrev w : View Voice
  w = knows_all v rest

  abbrev r : FlagsHold n end.0
  r = end.1.0

  own : (i : ℕ) (s : Signaler) → slice_get all i ≡ Some s → r.voices i ≡ s.seat.me.0.mine
  own i s e =
      ap r.voices (sym (numbers i s e))
      ∙ ⊎_elim
      (λ x.
      let m = backwards_has entry_of entries_of (λ _ _. refl) rest i s x in
      let l = at_more v.known (entries_of rest) m.0 (entry_of s) m.1 in
      (r.shown.known id w end.1.1 l.0 (entry_of s) l.1).0)
      (λ x.
      ap (λ (y : Signaler). r.voices (number_of y)) (sym x.1)
      ∙ ap r.voices (r.shown.number id w end.1.1 last.tied.live)
      ∙ r.shown.mine id w end.1.1 last.tied.live
      ∙ ap (λ (y : Signaler). y.seat.me.0.mine) x.1)
      (get_snoc rest last s i (ap (λ y. slice_get y i) (sym split) ∙ e))

  said : (i : ℕ) (s : Signaler) → slice_get all i ≡ Some s → (r.voices i).said ≡ s.said
  said i s e = ap (λ (h : Voice). h.said) (own i s e) ∙ s.tied.mine

  total : finished_by all ≡ slice_index_or end.0.words 0 0
  total =
      sym (over_list all (λ j. (r.voices j).said.finished)
      (λ i s e. ap (λ (h : Said). h.finished) (said i s e)))
      ∙ ap (λ k. in_all k (λ j. (r.voices j).said)) long
      ∙ r.total

  pub all_heard : AllHeard all
  all_heard =
      record {
        finished = λ i s e.
            let a = r.heard_finished i in
            let b = ap (λ (h : Voice). h.heard.finished) (own i s e) in
            let t = total in
            omega arith;
        stopped = λ i s e is.
            let b = r.by_some (r.heard_stopped i (ap (λ (h : Voice). h.heard.is_stopped) (own i s e) ∙ is)) in
            let some_one = slice_get-get_or all b.0 s (let lt = b.1 in omega arith) in
            one_passes (λ x. x.said.stops) all b.0 (slice_index_or all b.0 s) some_one
            (ap (λ (h : Said). h.stops) (sym (said b.0 (slice_index_or all b.0 s) some_one)) ∙ b.2);
      }
