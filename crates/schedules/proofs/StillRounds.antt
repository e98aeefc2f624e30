-- A round without progress makes each of its actions where it began, and leaves all as it was.
use Rattle.std.proofs.Common.{◌≡◌, cond, ℕ, ◌||◌, Bool, true, false, List, [], ◌∷◌, ◌++◌, inl, inr, refl, sym, ap}
use Rattle.std.proofs.Common.{◌∙◌, subst, ⊎_elim}
use Rattle.std.specs.List.{AllByRecursion as Each}
use Rattle.std.proofs.lemmas.Bool.{or_parts, cases_Bool, cond-true, cond-false}
use Rattle.machine_table.specs.Answered.{Answered}
use Rattle.machine_table.specs.declared.event.Answer.{Answer}
use Rattle.machine_table.specs.declared.event.Answer.TheVariants as answer
use Rattle.machine_table.specs.declared.event.Event.{Event}
use Rattle.machine_table.specs.declared.event.Event.TheVariants as event
use Rattle.machine_table.specs.declared.event.Refusal.TheVariants as refusal
use Rattle.machine_table.specs.Machine.{Machine}
use Rattle.machine_table.specs.Transition.{transition}
use Rattle.machine_table.proofs.Lemmas.{every_answer}
use Rattle.programs.specs.Acts.{Acts}
use Rattle.schedules.specs.Parts.{Action, Does, Advances, Lists, Standing, Part, after_action, after_actions}
use Rattle.schedules.specs.Parts.{after_answer, followed_by, for_each, is_progress, is_times_end, programs_told}
use Rattle.schedules.specs.Parts.{told_advance}
use Rattle.schedules.specs.Stalls.{IsAmong}

-- an answer that is no progress, and doesn't end the run
pub record IsCalm (a : Answer) : Type 0 where
  pub quiet : is_progress a ≡ false
  pub in_time : is_times_end a ≡ false

calm_leaves : (m : Machine) (a : Answer) (after : Machine) → Answered m a after → IsCalm a → after ≡ m
calm_leaves m answer.Waiting after says calm = says
calm_leaves m answer.Held after says calm = says
calm_leaves m (answer.Refused refusal.NoMemory) after says calm = absurd says
calm_leaves m (answer.Refused refusal.Exhausted) after says calm = absurd (let z : true ≡ false = calm.in_time in cc)
calm_leaves m (answer.Refused _) after says calm = says
calm_leaves m _ after says calm = absurd (let z : true ≡ false = calm.quiet in cc)

-- each action of a list is answered so at one machine
abbrev pub IsStill : Machine → Action → Type 0
IsStill m (Does e) = IsCalm (transition m e).0
IsStill m (Advances core) = IsCalm (transition m (event.Advance core)).0
IsStill m Lists = Unit {0}

abbrev pub AreStill : Machine → List Action → Type 0
AreStill m actions = Each (IsStill m) actions

-- a turn that is going on without progress
pub record GoesOn {P : Type 0} (s : Standing P) : Type 0 where
  pub quiet : s.has_progressed ≡ false
  pub in_time : s.is_out ≡ false

module _ {P : Type 0} (acts : Acts P) where
  untold : (programs : List P) (a : Answer) → IsCalm a → programs_told acts programs a ≡ programs
  untold programs (answer.Completed done) calm = absurd (let z : true ≡ false = calm.quiet in cc)
  untold programs _ calm = refl

  not_told : (programs : List P) (core : ℕ) (a : Answer) → IsCalm a → told_advance acts programs core a ≡ programs
  not_told programs core answer.Advanced calm = absurd (let z : true ≡ false = calm.quiet in cc)
  not_told programs core _ calm = refl

  module _ (s : Standing P) (so : GoesOn s) where
    answer_leaves : (tells : Answer → List P) (x : Answer × Machine) → x.1 ≡ s.machine → tells x.0 ≡ s.programs →
        IsCalm x.0 → after_answer s tells x ≡ s
    answer_leaves tells x machine programs calm =
        let quiet : (s.has_progressed || is_progress x.0) ≡ s.has_progressed =
        ap (λ (b : Bool). b || is_progress x.0) so.quiet ∙ calm.quiet ∙ sym so.quiet in
        let in_time : is_times_end x.0 ≡ s.is_out = calm.in_time ∙ sym so.in_time in
        λ i. record { machine = machine i; programs = programs i; has_progressed = quiet i; is_out = in_time i }

    event_leaves : (e : Event) (tells : Answer → List P) → tells (transition s.machine e).0 ≡ s.programs →
        IsCalm (transition s.machine e).0 →
        cond s.is_out s (after_answer s tells (transition s.machine e)) ≡ s
    event_leaves e tells programs calm =
        cond-false s.is_out s _ so.in_time
        ∙ answer_leaves tells (transition s.machine e)
        (calm_leaves s.machine (transition s.machine e).0 (transition s.machine e).1 (every_answer s.machine e) calm)
        programs calm

    action_leaves : (action : Action) → IsStill s.machine action → after_action acts s action ≡ s
    action_leaves (Does e) calm =
        event_leaves e (programs_told acts s.programs) (untold s.programs (transition s.machine e).0 calm) calm
    action_leaves (Advances core) calm =
        event_leaves (event.Advance core) (told_advance acts s.programs core)
        (not_told s.programs core (transition s.machine (event.Advance core)).0 calm) calm
    action_leaves Lists calm = refl

    -- an action after which the turn goes on so
    event_calm : (e : Event) (tells : Answer → List P) →
        GoesOn (cond s.is_out s (after_answer s tells (transition s.machine e))) → IsCalm (transition s.machine e).0
    event_calm e tells after =
        let x = subst GoesOn (cond-false s.is_out s (after_answer s tells (transition s.machine e)) so.in_time) after in
        record { quiet = (or_parts s.has_progressed _ x.quiet).1; in_time = x.in_time }

    action_still : (action : Action) → GoesOn (after_action acts s action) → IsStill s.machine action
    action_still (Does e) after = event_calm e (programs_told acts s.programs) after
    action_still (Advances core) after = event_calm (event.Advance core) (told_advance acts s.programs core) after
    action_still Lists after = tt

  pub still_leaves : (s : Standing P) → GoesOn s → (actions : List Action) → AreStill s.machine actions →
      after_actions acts s actions ≡ s
  still_leaves s so [] still = refl
  still_leaves s so (x ∷ xs) still =
      ap (λ (t : Standing P). after_actions acts t xs) (action_leaves s so x still.0) ∙ still_leaves s so xs still.1

  -- progress and the end of times stay
  event_went : (s : Standing P) (e : Event) (tells : Answer → List P) →
      GoesOn (cond s.is_out s (after_answer s tells (transition s.machine e))) → GoesOn s
  event_went s e tells after = elim (cases_Bool s.is_out) [
    | inl out ↦ subst GoesOn (cond-true s.is_out s (after_answer s tells (transition s.machine e)) out) after
    | inr more ↦
        let x = subst GoesOn (cond-false s.is_out s (after_answer s tells (transition s.machine e)) more) after in
        record { quiet = (or_parts s.has_progressed _ x.quiet).0; in_time = more }
  ]

  action_went : (s : Standing P) (action : Action) → GoesOn (after_action acts s action) → GoesOn s
  action_went s (Does e) after = event_went s e (programs_told acts s.programs) after
  action_went s (Advances core) after = event_went s (event.Advance core) (told_advance acts s.programs core) after
  action_went s Lists after = after

  pub went : (s : Standing P) (actions : List Action) → GoesOn (after_actions acts s actions) → GoesOn s
  went s [] after = after
  went s (x ∷ xs) after = action_went s x (went (after_action acts s x) xs after)

  -- a list of actions after which the turn goes on so
  pub all_still : (s : Standing P) (actions : List Action) → GoesOn (after_actions acts s actions) →
      AreStill s.machine actions
  all_still s [] after = tt
  all_still s (x ∷ xs) after =
      let next : GoesOn (after_action acts s x) = went (after_action acts s x) xs after in
      let so : GoesOn s = action_went s x next in
      let first : IsStill s.machine x = action_still s so x next in
      let same : after_action acts s x ≡ s = action_leaves s so x first in
      (first, all_still s xs (subst (λ (t : Standing P). GoesOn (after_actions acts t xs)) same after))

  -- so each part makes its actions where the turn began, each of them an action of the whole
  module _ (s : Standing P) (so : GoesOn s) (whole : List Action) where
    abbrev pub AreOf : List Action → Type 0
    AreOf actions = Each (λ action. IsStill s.machine action × IsAmong action whole) actions

    abbrev pub Has : Part P → Type 0
    Has part = AreOf (part s)

    pub all_of : (actions : List Action) → AreStill s.machine actions →
        ((action : Action) → IsAmong action actions → IsAmong action whole) → AreOf actions
    all_of [] still are = tt
    all_of (x ∷ xs) still are = ((still.0, are x (inl refl)), all_of xs still.1 (λ y later. are y (inr later)))

    are_still : (actions : List Action) → AreOf actions → AreStill s.machine actions
    are_still [] each = tt
    are_still (x ∷ xs) each = (each.0.0, are_still xs each.1)

    both : (xs ys : List Action) → AreOf (xs ++ ys) → AreOf xs × AreOf ys
    both [] ys each = (tt, each)
    both (x ∷ xs) ys each = let k = both xs ys each.1 in ((each.0, k.0), k.1)

    pub both_have : (f g : Part P) → Has (followed_by acts f g) → Has f × Has g
    both_have f g each =
        let k = both (f s) (g (after_actions acts s (f s))) each in
        (k.0, subst (λ (t : Standing P). AreOf (g t)) (still_leaves s so (f s) (are_still (f s) k.0)) k.1)

    pub each_has : (part : ℕ → Part P) (numbers : List ℕ) → Has (for_each acts part numbers) → (n : ℕ) →
        IsAmong n numbers → Has (part n)
    each_has part [] each n there = absurd there
    each_has part (k ∷ ks) each n there =
        let both = both_have (part k) (for_each acts part ks) each in
        ⊎_elim (λ (same : n ≡ k). subst (λ (i : ℕ). Has (part i)) (sym same) both.0)
        (λ (later : IsAmong n ks). each_has part ks both.1 n later) there
