-- One more state among those that are counted.
use Rattle.std.proofs.Common.{◌≡◌, ℕ, ◌+◌, ◌<◌, ◌≤◌, Bool, true, false, List, [], ◌∷◌, ◌++◌, length, length-take-le}
use Rattle.std.proofs.Common.{take, Option, Some, None, refl, sym, ap, ◌∙◌, true≢false, arith, if◌then◌else◌}
use Rattle.std.proofs.lemmas.Slice.Eq.{bytes_eq-Decides}
use Rattle.std.proofs.lemmas.List.{append-nil}
use Rattle.std.proofs.lemmas.List.Elements.{filter_map-append}
use Rattle.std.specs.Borrow.{Bor}
use Rattle.std.specs.List.{filter_map}
use Rattle.std.specs.Str.{bytes_eq}
use Rattle.std.specs.Map.{lookup}
use Rattle.indexmap.specs.IndexMap.{insert_entry}
use Rattle.report_text.specs.declared.run_end.RunEnd.{RunEnd}
use Rattle.report_text.specs.Ends.{done_state}
use Rattle.report_text.specs.States.{NamedValues, count_of_state, state_entries, done_states, one_more, same_state}
use Rattle.report_text.specs.States.{tallied, times_met, without_state}

abbrev option_list : Option NamedValues → List NamedValues
option_list (Some s) = s ∷ []
option_list None = []

abbrev pub or_zero : Option ℕ → ℕ
or_zero (Some n) = n
or_zero None = 0

abbrev Entry : Type 0
Entry = ℕ × NamedValues

same-itself : (s : NamedValues) → same_state s s ≡ true
same-itself s = (bytes_eq-Decides s s).1 refl

-- what differs from the one that a third is, differs from the third
differs : (s t u : NamedValues) → same_state s t ≡ false → same_state s u ≡ true → same_state t u ≡ false
differs s t u apart same = by (same_state t u) refl
  where
    by : (b : Bool) → same_state t u ≡ b → same_state t u ≡ false
    by false e = e
    by true e =
        let one : s ≡ u = (bytes_eq-Decides s u).0 same in
        let two : t ≡ u = (bytes_eq-Decides t u).0 e in
        absurd (true≢false (sym ((bytes_eq-Decides s t).1 (one ∙ sym two)) ∙ apart))

differs-back : (s t : NamedValues) → same_state s t ≡ false → same_state t s ≡ false
differs-back s t apart = differs s t s apart (same-itself s)

-- where one more of a state is dropped, all of them are
without-it : (s : NamedValues) (es : List Entry) → without_state s (one_more s es) ≡ without_state s es
without-it s [] = rw (same-itself s) refl
without-it s (e ∷ es) = by (same_state s e.1) refl (without-it s es)
  where
    by : (b : Bool) → same_state s e.1 ≡ b → without_state s (one_more s es) ≡ without_state s es →
        without_state s (one_more s (e ∷ es)) ≡ without_state s (e ∷ es)
    by true same rest = rw (same) (rw (same) refl)
    by false apart rest = rw (apart) (rw (apart) (ap (λ (l : List Entry). e ∷ l) rest))

-- one more of a state, where those of another are dropped
without-other : (s t : NamedValues) (es : List Entry) → same_state s t ≡ false →
    without_state t (one_more s es) ≡ one_more s (without_state t es)
without-other s t [] apart = rw (differs-back s t apart) refl
without-other s t (e ∷ es) apart = by (same_state s e.1) (same_state t e.1) refl refl (without-other s t es apart)
  where
    by : (b c : Bool) → same_state s e.1 ≡ b → same_state t e.1 ≡ c → without_state t (one_more s es) ≡ one_more s
        (without_state t es) → without_state t (one_more s (e ∷ es)) ≡ one_more s (without_state t (e ∷ es))
    by true true p q rest = absurd (true≢false (sym q ∙ differs s t e.1 apart p))
    by true false p q rest = rw (p, q) (rw (p) refl)
    by false true p q rest = rw (p, q) rest
    by false false p q rest = rw (p, q) (rw (p) (ap (λ (l : List Entry). e ∷ l) rest))

from_zero : (n : ℕ) → 0 + n ≡ n
from_zero n = omega arith

times-next : (t s : NamedValues) (xs : List NamedValues) → times_met t (xs ++ s ∷ []) ≡ times_met t xs
    + times_met t (s ∷ [])
times-next t s [] = sym (from_zero (times_met t (s ∷ [])))
times-next t s (x ∷ xs) = let next =
    times-next t s xs in ap (λ (n : ℕ). (if same_state t x then 1 else 0) + n) next ∙ omega arith

met : (t s : NamedValues) → same_state t s ≡ true → times_met t (s ∷ []) ≡ 1
met t s same = rw (same) refl

not_met : (t s : NamedValues) → same_state t s ≡ false → times_met t (s ∷ []) ≡ 0
not_met t s apart = rw (apart) refl

-- one more state is counted where it stands, or is new at the end
tallied-next : (xs : List NamedValues) (s : NamedValues) → tallied (xs ++ s ∷ []) ≡ one_more s (tallied xs)
tallied-next [] s = refl
tallied-next (t ∷ xs) s = by (same_state s t) refl (tallied-next xs s)
  where
    by : (b : Bool) → same_state s t ≡ b → tallied (xs ++ s ∷ []) ≡ one_more s (tallied xs) →
        tallied (t ∷ xs ++ s ∷ []) ≡ one_more s (tallied (t ∷ xs))
    by true same rest =
        let is : s ≡ t = (bytes_eq-Decides s t).0 same in
        let again : times_met t (xs ++ s ∷ []) ≡ times_met t xs + 1 =
        times-next t s xs ∙ ap (λ (n : ℕ). times_met t xs + n) (met t s ((bytes_eq-Decides t s).1 (sym is))) in
        let count : 1 + times_met t (xs ++ s ∷ []) ≡ 1 + times_met t xs + 1 = omega (arith, again) in
        let others : without_state t (tallied (xs ++ s ∷ [])) ≡ without_state t (tallied xs) = ap (without_state t) rest
        ∙ ap (λ (u : NamedValues). without_state t (one_more u (tallied xs))) is ∙ without-it t (tallied xs) in
        rw (same) (λ j. (count j, t) ∷ others j)
    by false apart rest =
        let again : times_met t (xs ++ s ∷ []) ≡ times_met t xs + 0 =
        times-next t s xs ∙ ap (λ (n : ℕ). times_met t xs + n) (not_met t s (differs-back s t apart)) in
        let count : 1 + times_met t (xs ++ s ∷ []) ≡ 1 + times_met t xs = omega (arith, again) in
        let others : without_state t (tallied (xs ++ s ∷ [])) ≡ one_more s (without_state t (tallied xs)) =
        ap (without_state t) rest ∙ without-other s t (tallied xs) apart in
        rw (apart) (λ j. (count j, t) ∷ others j)

-- a list counts no more of a state than it has
times-few : (s : NamedValues) (xs : List NamedValues) → times_met s xs ≤ length xs
times-few s [] = omega arith
times-few s (x ∷ xs) = by (same_state s x) refl (times-few s xs)
  where
    by : (b : Bool) → same_state s x ≡ b → times_met s xs ≤ length xs → times_met s (x ∷ xs) ≤ length (x ∷ xs)
    by true e few = rw (e) (omega (arith, few))
    by false e few = rw (e) (omega (arith, few))

count-without : (s t : NamedValues) (es : List Entry) → same_state t s ≡ false → count_of_state s (without_state t es)
    ≡ count_of_state s es
count-without s t [] apart = refl
count-without s t (e ∷ es) apart = by (same_state s e.1) (same_state t e.1) refl refl (count-without s t es apart)
  where
    by : (b c : Bool) → same_state s e.1 ≡ b → same_state t e.1 ≡ c → count_of_state s (without_state t es)
        ≡ count_of_state s es →
        count_of_state s (without_state t (e ∷ es)) ≡ count_of_state s (e ∷ es)
    by true true p q rest = absurd (true≢false (sym p ∙ differs t s e.1 apart q))
    by true false p q rest = rw (p, q) (rw (p) refl)
    by false true p q rest = rw (p, q) rest
    by false false p q rest = rw (p, q) (rw (p) rest)

tallied-few : (s : NamedValues) (xs : List NamedValues) → count_of_state s (tallied xs) ≤ length xs
tallied-few s [] = omega arith
tallied-few s (t ∷ xs) = by (same_state s t) refl (tallied-few s xs)
  where
    by : (b : Bool) → same_state s t ≡ b → count_of_state s (tallied xs) ≤ length xs →
        count_of_state s (tallied (t ∷ xs)) ≤ length (t ∷ xs)
    by true same few = let some = times-few t xs in rw (same) (omega (arith, some))
    by false apart few = rw (apart, count-without s t (tallied xs) (differs-back s t apart)) (omega (arith, few))

-- the runs so far, and one more
module _ (runs : List RunEnd) where
  one_of : (run : RunEnd) (o : Option NamedValues) → done_state run.end run.state ≡ o →
      filter_map (λ r. done_state r.end r.state) (run ∷ []) ≡ option_list o
  one_of run None e = rw (e) refl
  one_of run (Some s) e = rw (e) refl

  done-next : (run : RunEnd) (o : Option NamedValues) → done_state run.end run.state ≡ o → done_states
      (runs ++ run ∷ []) ≡
      done_states runs ++ option_list o
  done-next run o e = filter_map-append (λ r. done_state r.end r.state) runs (run ∷ [])
      ∙ ap (λ (l : List NamedValues). done_states runs ++ l) (one_of run o e)

  pub with_state : (run : RunEnd) (s : NamedValues) → done_state run.end run.state ≡ Some s →
      tallied (done_states (runs ++ run ∷ [])) ≡ one_more s (tallied (done_states runs))
  with_state run s e = ap tallied (done-next run (Some s) e) ∙ tallied-next (done_states runs) s

  pub with_none : (run : RunEnd) → done_state run.end run.state ≡ None → tallied (done_states (runs ++ run ∷ [])) ≡
      tallied (done_states runs)
  with_none run e = ap tallied (done-next run None e ∙ append-nil (done_states runs))

done-few : (runs : List RunEnd) → length (done_states runs) ≤ length runs
done-few [] = omega arith
done-few (run ∷ runs) = by (done_state run.end run.state) refl (done-few runs)
  where
    by : (o : Option NamedValues) → done_state run.end run.state ≡ o → length (done_states runs) ≤ length runs →
        length (done_states (run ∷ runs)) ≤ length (run ∷ runs)
    by None e few = rw (e) (omega (arith, few))
    by (Some s) e few = rw (e) (omega (arith, few))

-- fewer runs of a state are counted than runs are behind
pub few_counted : (runs : List RunEnd) (k : ℕ) (s : NamedValues) (es : List Entry) →
    es ≡ tallied (done_states (take k runs)) → k < length runs → count_of_state s es < length runs
few_counted runs k s es e within =
    let one = tallied-few s (done_states (take k runs)) in
    let two = done-few (take k runs) in
    let three = length-take-le k runs (omega (arith, within)) in
    rw (e) (omega (arith, one, two, three, within))

-- the entries of the map
pub count_is : (es : List (Bor NamedValues × ℕ)) (s : NamedValues) → count_of_state s (state_entries es) ≡ or_zero
    (lookup (λ k. bytes_eq s k.now) es)
count_is [] s = refl
count_is (e ∷ es) s = by (same_state s (e.0).now) refl (count_is es s)
  where
    by : (b : Bool) → same_state s (e.0).now ≡ b → count_of_state s (state_entries es) ≡ or_zero
        (lookup (λ k. bytes_eq s k.now) es) → count_of_state s (state_entries (e ∷ es)) ≡ or_zero
        (lookup (λ k. bytes_eq s k.now) (e ∷ es))
    by true same rest = rw (same) refl
    by false apart rest = rw (apart) rest

inserted : (es : List (Bor NamedValues × ℕ)) (k : Bor NamedValues) → state_entries
    (insert_entry (λ x y. bytes_eq x.now y.now) es k
    (count_of_state k.now (state_entries es) + 1)) ≡ one_more k.now (state_entries es)
inserted [] k = refl
inserted (e ∷ es) k = by (same_state k.now (e.0).now) refl (inserted es k)
  where
    by : (b : Bool) → same_state k.now (e.0).now ≡ b → state_entries (insert_entry (λ x y. bytes_eq x.now y.now) es k
        (count_of_state k.now (state_entries es) + 1)) ≡ one_more k.now (state_entries es)
        → state_entries (insert_entry (λ x y. bytes_eq x.now y.now) (e ∷ es) k
        (count_of_state k.now (state_entries (e ∷ es)) + 1)) ≡
        one_more k.now (state_entries (e ∷ es))
    by true same rest = rw (same) refl
    by false apart rest = rw (apart) (ap (λ (l : List Entry). (e.1, (e.0).now) ∷ l) rest)

pub one_inserted : (es new : List (Bor NamedValues × ℕ)) (k : Bor NamedValues) (n : ℕ) →
    new ≡ insert_entry (λ x y. bytes_eq x.now y.now) es k (n + 1) → n ≡ count_of_state k.now (state_entries es) →
    state_entries new ≡ one_more k.now (state_entries es)
one_inserted es new k n e c =
    ap state_entries (e ∙ ap (λ (m : ℕ). insert_entry (λ x y. bytes_eq x.now y.now) es k (m + 1)) c) ∙ inserted es k
