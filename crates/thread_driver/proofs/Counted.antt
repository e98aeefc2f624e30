-- Cores with their programs that are over: counted one by one, and in turns, after which they are over still.
use Rattle.std.proofs.Common.{◌≡◌, ℕ, zero, suc, ◌+◌, ◌≤◌, Bool, true, false, ◌&&◌, List, [], ◌∷◌, length}
use Rattle.std.proofs.Common.{Option, Some, None, IfSome, refl, sym, ap, ap₂, ◌∙◌, subst, arith, true≢false}
use Rattle.std.specs.Prelude.{slice_get, is_none}
use Rattle.std.specs.Int.{from_bool}
use Rattle.physiological_order.specs.declared.operation.Op.{Op}
use Rattle.physiological_order.specs.declared.operation.Record.{Record}
use Rattle.mailboxes.specs.declared.machine.Machine.{Machine}
use Rattle.mailboxes.specs.declared.core_seat.CoreSeat.{CoreSeat}
use Rattle.programs.specs.declared.steps.Step.TheVariants as step
use Rattle.programs.specs.Acts.{Acts}
use Rattle.programs.specs.Performs.{Performs, rests, advances, does}
use Rattle.thread_driver.specs.declared.told.Told.{Told}
use Rattle.thread_driver.specs.Given.{IsCoreTurn}
use Rattle.thread_driver.specs.Teams.{InARow, PassGiven, ends, follows, goes_on, is_over, is_used, over_in, stops}
use Rattle.thread_driver.proofs.Lists.{both_none, none_some, some_is}

-- one that may come to be counted
counted_still : (a b : Bool) → (a ≡ true → b ≡ true) → from_bool a ≤ from_bool b
counted_still true false f = absurd (true≢false (sym (f refl)))
counted_still _ _ f = omega arith

pub counts_one : (a : Bool) → from_bool a ≤ 1
counts_one true = omega arith
counts_one false = omega arith

counts_all : (a : Bool) → 1 ≤ from_bool a → a ≡ true
counts_all true le = refl
counts_all false le = absurd (omega (arith, le))

module _ {P : Type 0} (acts : Acts P) where
  -- how many are over from an index on
  abbrev pub over_from : ℕ → List (CoreSeat × P) → ℕ
  over_from zero xs = over_in acts xs
  over_from (suc i) [] = 0
  over_from (suc i) (x ∷ xs) = over_from i xs

  first_over : (xs : List (CoreSeat × P)) (i : ℕ) (x : CoreSeat × P) → slice_get xs i ≡ Some x →
      over_from i xs ≡ from_bool (is_over acts x) + over_from (suc i) xs
  first_over [] i x at = none_some at
  first_over (y ∷ ys) zero x at = ap (λ z. from_bool (is_over acts z) + over_in acts ys) (some_is at)
  first_over (y ∷ ys) (suc i) x at = first_over ys i x at

  -- one more is looked at
  pub one_counted : (xs : List (CoreSeat × P)) (i : ℕ) (x : CoreSeat × P) (count : ℕ) (b : Bool) →
      slice_get xs i ≡ Some x → is_over acts x ≡ b → count + over_from i xs ≡ over_in acts xs →
      count + from_bool b + over_from (i + 1) xs ≡ over_in acts xs
  one_counted xs i x count b at is so_far =
      let first = first_over xs i x at in
      let here : from_bool (is_over acts x) ≡ from_bool b = ap (λ c. from_bool c) is in
      let next : suc i ≡ i + 1 = omega arith in
      subst (λ k. count + from_bool b + over_from k xs ≡ over_in acts xs) next (omega arith)

  -- none are left
  pub all_counted : (xs : List (CoreSeat × P)) (i : ℕ) → length xs ≤ i → over_from i xs ≡ 0
  all_counted [] zero le = refl
  all_counted [] (suc i) le = refl
  all_counted (x ∷ xs) zero le = absurd (omega (arith, le))
  all_counted (x ∷ xs) (suc i) le = all_counted xs i (omega (arith, le))

  -- they are no more than there are, and if as many, all
  pub over_few : (xs : List (CoreSeat × P)) → over_in acts xs ≤ length xs
  over_few [] = omega arith
  over_few (x ∷ xs) = let a = over_few xs in let b = counts_one (is_over acts x) in omega arith

  pub all_over : (xs : List (CoreSeat × P)) → length xs ≤ over_in acts xs → (k : ℕ) (x : CoreSeat × P) →
      slice_get xs k ≡ Some x → is_over acts x ≡ true
  all_over [] le k x at = none_some at
  all_over (y ∷ ys) le zero x at =
      let a = over_few ys in
      ap (is_over acts) (sym (some_is at)) ∙ counts_all (is_over acts y) (omega (arith, le, a))
  all_over (y ∷ ys) le (suc k) x at =
      let a = counts_one (is_over acts y) in all_over ys (omega (arith, le, a)) k x at

  -- a program without a next step does nothing
  does_nothing : {rs : List Record} {p q : P} → acts.next p ≡ None → Performs acts rs p q → q ≡ p
  does_nothing none rests = refl
  does_nothing none (advances next on) = none_some (sym none ∙ next)
  does_nothing none (does next on) = none_some (sym none ∙ next)

  opens_nothing : (o : Option Op) (b : P) → IfSome o (λ op. acts.next b ≡ Some (step.Op op)) → acts.next b ≡ None →
      o ≡ None
  opens_nothing None b ahead none = refl
  opens_nothing (Some op) b ahead none = none_some (sym none ∙ ahead)

  module _ (m : Machine) where
    -- what is over stays so in a turn, and in a pass
    over_stays : (x : CoreSeat × P) (told : Told) (y : CoreSeat × P) → IsCoreTurn acts m x told y →
        is_over acts x ≡ true → is_over acts y ≡ true
    over_stays x told y turn is =
        let none = both_none x.0.part.core.open_op (acts.next x.1) is in
        let next : acts.next y.1 ≡ None = ap (λ b. acts.next b) (does_nothing none.1 turn.plays.performs) ∙ none.1 in
        ap₂ (λ o n. is_none o && is_none n) (opens_nothing y.0.part.core.open_op y.1 turn.plays.ahead next) next

    over_still : {most n k : ℕ} {x y : CoreSeat × P} {told : Told} → InARow (IsCoreTurn acts m) most n x k told y →
        is_over acts x ≡ true → is_over acts y ≡ true
    over_still (is_used le) is = is
    over_still (stops {told = told} {x = x} {y = y} lt turn last) is = over_stays x told y turn is
    over_still (follows {told = told} {x = x} {y = y} lt turn on rest) is =
        over_still rest (over_stays x told y turn is)

    pub over_rises : {limit k : ℕ} {ns ms : List ℕ} {xs ys : List (CoreSeat × P)} {told : Told} →
        PassGiven (IsCoreTurn acts m) limit k ns xs told ms ys → over_in acts xs ≤ over_in acts ys
    over_rises ends = omega arith
    over_rises (goes_on {x = x} {y = y} row last rest) =
        let a = counted_still (is_over acts x) (is_over acts y) (over_still row) in
        let b = over_rises rest in
        omega arith
