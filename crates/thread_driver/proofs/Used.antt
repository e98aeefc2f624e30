-- A team whose turns told no end: each worker used all turns of its seats, or all programs are over.
use Rattle.std.proofs.Common.{◌≡◌, ◌⊎◌, inl, inr, ℕ, zero, suc, ◌%◌, ◌/◌, ◌<◌, ◌≤◌, Bool, true, false, ◌||◌}
use Rattle.std.proofs.Common.{List, [], ◌∷◌, length, map, get_or, Some, refl, sym, ap, ap₂, ◌∙◌, subst, arith}
use Rattle.std.proofs.Common.{true≢false, ⊎_elim, ◌≢◌}
use Rattle.std.specs.Prelude.{option_map, slice_get}
use Rattle.std.specs.List.{list_any, zip}
use Rattle.std.proofs.lemmas.Bool.{cases_lt, false_from_ne_true, or_from, or_parts}
use Rattle.std.proofs.lemmas.List.{length-map}
use Rattle.std.proofs.lemmas.Option.{slice_get-map, slice_get_within}
use Rattle.mailboxes.specs.declared.machine.Machine.{Machine}
use Rattle.mailboxes.specs.declared.core_seat.CoreSeat.{CoreSeat}
use Rattle.programs.specs.declared.ends.End.{End}
use Rattle.programs.specs.declared.ends.End.TheVariants as end
use Rattle.programs.specs.Acts.{Acts}
use Rattle.round_robin.specs.Dealing.{IsDealtInTurn, hand_of, total_length}
use Rattle.round_robin.proofs.Lemmas.{item_at}
use Rattle.stop_flags.specs.declared.signaler.Signaler.{Signaler}
use Rattle.stop_flags.specs.declared.signals.Signals.{Signals}
use Rattle.stop_flags.specs.Heard.{AllHeard, finished_by}
use Rattle.stop_flags.specs.Signalers.{AreAllSignalers, IsSignalerOf, last_look, number_of}
use Rattle.thread_driver.specs.declared.told.Told.{Told}
use Rattle.thread_driver.specs.declared.worker.Rota.{Rota}
use Rattle.thread_driver.specs.declared.worker.Worker.{Worker}
use Rattle.thread_driver.specs.Given.{AtMost, Exactly}
use Rattle.thread_driver.specs.Hands.{core_hands, program_hands}
use Rattle.thread_driver.specs.Shifts.{AreOver, TurnsBy, end_told}
use Rattle.thread_driver.specs.Teams.{AllWork, HasWorked, Works, ends_all, is_over, over_in}
use Rattle.thread_driver.proofs.Counted.{all_over, over_few}
use Rattle.thread_driver.proofs.Dealt.{AllGave, pair_hands, pairs_dealt}
use Rattle.thread_driver.proofs.Lists.{both_none, none_some, some_is, there}
use Rattle.thread_driver.proofs.Reports.{by_end}
use Rattle.thread_driver.proofs.Pairs.{pair_there, pairs_few}
use Rattle.thread_driver.proofs.Worked.{Gave}

either_way : {A : Type 0} (b : Bool) → (b ≡ true → A) → (b ≡ false → A) → A
either_way true f g = f refl
either_way false f g = g refl

-- a test that none of a list passes
none_passes : {A : Type 0} (test : A → Bool) (xs : List A) (i : ℕ) (x : A) → list_any test xs ≡ false →
    slice_get xs i ≡ Some x → test x ≡ false
none_passes test [] i x none at = none_some at
none_passes test (y ∷ ys) zero x none at =
    ap test (sym (some_is at)) ∙ (or_parts (test y) (list_any test ys) none).0
none_passes test (y ∷ ys) (suc i) x none at =
    none_passes test ys i x (or_parts (test y) (list_any test ys) none).1 at

-- what one of a list passes
some_passes : {A : Type 0} (test : A → Bool) (xs : List A) → list_any test xs ≡ true →
    (i : ℕ) × (x : A) × (slice_get xs i ≡ Some x) × (test x ≡ true)
some_passes test [] is = absurd (true≢false (sym is))
some_passes test (y ∷ ys) is =
    either_way (test y)
    (λ e. (zero, y, refl, e))
    (λ e.
    let s = some_passes test ys (sym (ap (λ b. b || list_any test ys) e) ∙ is) in
    (suc s.0, s.1, s.2, s.3))

-- what is so of all places of two lists, or else another thing is so
front_too : {V : Type 0} (K : V → V → Type 0) (ws vs : List V) (w v : V) → K w v →
    ((i : ℕ) (x y : V) → slice_get ws i ≡ Some x → slice_get vs i ≡ Some y → K x y) → (i : ℕ) (x y : V) →
    slice_get (w ∷ ws) i ≡ Some x → slice_get (v ∷ vs) i ≡ Some y → K x y
front_too K ws vs w v first rest zero x y e f = subst (λ z. K z y) (some_is e) (subst (K w) (some_is f) first)
front_too K ws vs w v first rest (suc i) x y e f = rest i x y e f

all_or : {V B : Type 0} (K : V → V → Type 0) (ws vs : List V) →
    ((i : ℕ) (x y : V) → slice_get ws i ≡ Some x → slice_get vs i ≡ Some y → K x y ⊎ B) →
    ((i : ℕ) (x y : V) → slice_get ws i ≡ Some x → slice_get vs i ≡ Some y → K x y) ⊎ B
all_or K [] vs each = inl (λ i x y e f. none_some e)
all_or K (w ∷ ws) [] each = inl (λ i x y e f. none_some f)
all_or K (w ∷ ws) (v ∷ vs) each =
    ⊎_elim
    (λ first. ⊎_elim (λ rest. inl (front_too K ws vs w v first rest)) inr
    (all_or K ws vs (λ i x y e f. each (suc i) x y e f)))
    inr
    (each zero w v refl refl)

-- what a worker has of what all have, and the cores of a team that keeps their number
pub share_few : {P X : Type 0} (items : Worker P → List X) (ws : List (Worker P)) (i : ℕ) (w : Worker P) →
    slice_get ws i ≡ Some w → length (items w) ≤ total_length (map items ws)
share_few items [] i w at = none_some at
share_few items (v ∷ ws) zero w at = let same = ap (λ x. length (items x)) (some_is at) in omega arith
share_few items (v ∷ ws) (suc i) w at = let rest = share_few items ws i w at in omega arith

same_totals : {P : Type 0} (ws vs : List (Worker P)) → length vs ≡ length ws →
    ((i : ℕ) (w v : Worker P) → slice_get ws i ≡ Some w → slice_get vs i ≡ Some v →
    length v.cores.items ≡ length w.cores.items) → total_length (core_hands vs) ≡ total_length (core_hands ws)
same_totals [] [] long each = refl
same_totals [] (v ∷ vs) long each = absurd (omega (arith, long))
same_totals (w ∷ ws) [] long each = absurd (omega (arith, long))
same_totals (w ∷ ws) (v ∷ vs) long each =
    let here = each zero w v refl refl in
    let rest = same_totals ws vs (omega (arith, long)) (λ i x y e f. each (suc i) x y e f) in
    omega arith

-- what maps to a value of a list
mapped : {A B : Type 0} (f : A → B) (xs : List A) (i : ℕ) (y : B) → slice_get (map f xs) i ≡ Some y →
    (x : A) × (slice_get xs i ≡ Some x) × (f x ≡ y)
mapped f [] i y at = none_some at
mapped f (x ∷ xs) zero y at = (x, refl, some_is at)
mapped f (x ∷ xs) (suc i) y at = mapped f xs i y at

map_there : {A B : Type 0} (f : A → B) (xs : List A) (i : ℕ) (x : A) → slice_get xs i ≡ Some x →
    slice_get (map f xs) i ≡ Some (f x)
map_there f xs i x at = slice_get-map f xs i ∙ ap (option_map f) at

-- the signalers of a team
abbrev pub signalers_of : {P : Type 0} → List (Worker P) → List Signaler
signalers_of vs = map (λ v. v.signaler) vs

module _ {P : Type 0} (acts : Acts P) where
  -- each worker has told no more finished programs than it has
  abbrev TellFew : List (Worker P) → Type 0
  TellFew vs = (i : ℕ) (v : Worker P) → slice_get vs i ≡ Some v →
      v.signaler.said.finished ≤ over_in acts (zip v.cores.items v.programs.items)

  tell_few : (vs : List (Worker P)) → TellFew vs → finished_by (signalers_of vs) ≤ total_length (core_hands vs)
  tell_few [] each = omega arith
  tell_few (v ∷ vs) each =
      let here = each zero v refl in
      let few = over_few acts (zip v.cores.items v.programs.items) in
      let short = pairs_few v.cores.items v.programs.items in
      let rest = tell_few vs (λ i x at. each (suc i) x at) in
      omega arith

  -- so if they told as many as there are cores, all are over
  hands_over : (vs : List (Worker P)) → TellFew vs → total_length (core_hands vs) ≤ finished_by (signalers_of vs) →
      (h k : ℕ) (x : CoreSeat × P) → slice_get (get_or (pair_hands vs) h []) k ≡ Some x → is_over acts x ≡ true
  hands_over [] each all h k x at = none_some at
  hands_over (v ∷ vs) each all zero k x at =
      let here = each zero v refl in
      let short = pairs_few v.cores.items v.programs.items in
      let rest = tell_few vs (λ i y e. each (suc i) y e) in
      all_over acts (zip v.cores.items v.programs.items) (omega arith) k x at
  hands_over (v ∷ vs) each all (suc h) k x at =
      let here = each zero v refl in
      let few = over_few acts (zip v.cores.items v.programs.items) in
      let short = pairs_few v.cores.items v.programs.items in
      hands_over vs (λ i y e. each (suc i) y e) (omega arith) h k x at

  pub all_are_over : (n : ℕ) (cores : List CoreSeat) (programs : List P) (vs : List (Worker P)) →
      IsDealtInTurn cores 0 n (core_hands vs) → IsDealtInTurn programs 0 n (program_hands vs) → TellFew vs →
      total_length (core_hands vs) ≤ finished_by (signalers_of vs) → AreOver acts cores programs
  all_are_over n cores programs vs dealt others each all i p a at_p at_a =
      let pairs = pairs_dealt n cores programs vs dealt others in
      both_none p.part.core.open_op (acts.next a)
      (hands_over vs each all (hand_of 0 n (i % n)) (i / n) (p, a)
      (sym (item_at (zip cores programs) 0 n (pair_hands vs) pairs i) ∙ pair_there cores programs i p a at_p at_a))

  module _ (m : Machine) (signals : Signals) (rota : Rota) (ws vs : List (Worker P))
      (work : AllWork acts m signals rota ws vs) where
    -- the worker at an index, before it worked
    before : (i : ℕ) (v : Worker P) → slice_get vs i ≡ Some v → (w : Worker P) × (slice_get ws i ≡ Some w)
    before i v at =
        let lt = slice_get_within vs i v at in
        let long = work.long in
        there ws i (omega arith)

    each_worked : (i : ℕ) (w v : Worker P) → slice_get ws i ≡ Some w → slice_get vs i ≡ Some v →
        IsSignalerOf signals v.signaler × HasWorked acts m rota w v
    unfolding Works
    each_worked i w v e f = work.each i w v e f

    worked : (i : ℕ) (v : Worker P) (at : slice_get vs i ≡ Some v) → HasWorked acts m rota (before i v at).0 v
    worked i v at = let w = before i v at in (each_worked i w.0 v w.1 at).1

    pub tells : TellFew vs
    tells i v at = (worked i v at).finished

    pub same_total : total_length (core_hands vs) ≡ total_length (core_hands ws)
    same_total = same_totals ws vs work.long (λ i w v e f. (each_worked i w v e f).1.given.cores_long)

    -- all signalers come back
    pub all_back : length ws ≡ signals.workers →
        ((i : ℕ) (w : Worker P) → slice_get ws i ≡ Some w → number_of w.signaler ≡ i) →
        AreAllSignalers signals (signalers_of vs)
    all_back many numbers =
        record {
          long = length-map {B = Signaler} vs (λ (v : Worker P). v.signaler) ∙ work.long ∙ many;
          each = λ i s at.
              let v = mapped (λ (x : Worker P). x.signaler) vs i s at in
              let w = before i v.0 v.1 in
              let works = each_worked i w.0 v.0 w.1 v.1 in (
                subst (IsSignalerOf signals) v.2 works.0,
                ap number_of (sym v.2) ∙ works.1.number ∙ numbers i w.0 w.1,
              );
        }

    module _ (heard : AllHeard (signalers_of vs)) (lacks : list_any (λ w. w.told.no_memory) vs ≡ false)
        (stops : list_any (λ w. w.told.is_exhausted) vs ≡ false) where
      goes : (i : ℕ) (v : Worker P) → slice_get vs i ≡ Some v → ends_all v.told ≡ false
      goes i v at =
          or_from v.told.no_memory v.told.is_exhausted
          (none_passes (λ (w : Worker P). w.told.no_memory) vs i v lacks at)
          (none_passes (λ (w : Worker P). w.told.is_exhausted) vs i v stops at)

      no_stop : (i : ℕ) (v : Worker P) → slice_get vs i ≡ Some v → (last_look v.signaler).is_stopped ≡ false
      no_stop i v at =
          either_way (last_look v.signaler).is_stopped
          (λ e.
          let s = some_passes (λ (x : Signaler). x.said.stops) (signalers_of vs)
          (heard.stopped i v.signaler (map_there (λ (x : Worker P). x.signaler) vs i v at) e) in
          let u = mapped (λ (x : Worker P). x.signaler) vs s.0 s.1 s.2 in
          absurd (true≢false (sym s.3 ∙ ap (λ (x : Signaler). x.said.stops) (sym u.2)
          ∙ (worked s.0 u.0 u.1).stops ∙ goes s.0 u.0 u.1)))
          (λ e. e)

      used : (i : ℕ) (w v : Worker P) → slice_get ws i ≡ Some w → slice_get vs i ≡ Some v →
          Gave acts m rota.fair (Exactly rota.turns) w v ⊎ (rota.programs ≤ finished_by (signalers_of vs))
      used i w v at_w at_v =
          let works = (each_worked i w v at_w at_v).1 in
          ⊎_elim
          (λ (left : (last_look v.signaler).finished < rota.programs).
          inl (works.all_given (goes i v at_v) (no_stop i v at_v) left))
          (λ (all : rota.programs ≤ (last_look v.signaler).finished).
          inr (let told = heard.finished i v.signaler (map_there (λ (x : Worker P). x.signaler) vs i v at_v) in
          omega arith))
          (cases_lt (last_look v.signaler).finished rota.programs)

      pub all_used : AllGave acts m rota.fair (Exactly rota.turns) ws vs ⊎
          (rota.programs ≤ finished_by (signalers_of vs))
      all_used =
          ⊎_elim
          (λ each. inl (record { long = work.long; each = each }))
          inr
          (all_or (Gave acts m rota.fair (Exactly rota.turns)) ws vs used)

-- as many turns as there are by the end
turns_by : (e : End) (limit : ℕ) (Given : (ℕ → Type 0) → Type 0) → Given (AtMost limit) →
    (e ≡ end.TurnsUsed → Given (Exactly limit)) → Given (TurnsBy e limit)
turns_by end.TurnsUsed limit Given most used = used refl
turns_by _ limit _ most used = most

pub given_by : (e : End) (told : Told) (limit : ℕ) (Given : (ℕ → Type 0) → Type 0) (Over : Type 0) →
    (e ≢ end.AllDone → e ≡ end_told told) → (Over → e ≡ end.AllDone) → Given (AtMost limit) →
    (ends_all told ≡ false → Given (Exactly limit) ⊎ Over) → Given (TurnsBy e limit)
given_by e told limit Given Over otherwise done most used =
    turns_by e limit Given most
    (λ is.
    let not_done = λ (d : e ≡ end.AllDone). (let both : end.TurnsUsed ≡ end.AllDone = sym is ∙ d in absurd cc) in
    ⊎_elim (λ all. all) (λ over. absurd (not_done (done over)))
    (let none = (by_end told e (otherwise not_done)).turns_used.0 is in
    used (ap₂ (λ a b. a || b) (false_from_ne_true told.no_memory none.0)
    (false_from_ne_true told.is_exhausted none.1))))
