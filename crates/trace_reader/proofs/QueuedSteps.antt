-- Steps that were read ahead, one after the other.
use Rattle.std.proofs.Common.{◌≡◌, ◌≢◌, ℕ, ◌+◌, ◌<◌, ◌≤◌, max, min, ◌==◌, Bool, true, false, List, [], ◌∷◌, ◌++◌}
use Rattle.std.proofs.Common.{length, Option, Some, None, refl, sym, ap, ap₂, subst, ◌∙◌, append_assoc, arith, inl, inr}
use Rattle.std.specs.Prelude.{◌⊎◌, ◌-◌, Result, Ok}
use Rattle.std.specs.FinMap.{FinMap, insert}
use Rattle.std.specs.Ordering.{nat_cmp}
use Rattle.std.proofs.lemmas.Bool.{cases_Bool, cases_lt}
use Rattle.std.proofs.lemmas.List.{append-nil}
use Rattle.physiological_order.specs.Order.{address}
use Rattle.programs.specs.declared.steps.Step.{Step}
use Rattle.programs.specs.declared.steps.Step.TheVariants as step
use Rattle.trace_reader.specs.declared.read_ahead.AheadError.{AheadError}
use Rattle.trace_reader.specs.declared.read_ahead.AheadError.TheVariants.{Text, NoQueue, NoMemory}
use Rattle.trace_reader.specs.declared.step_streams.StepStream.{StepStream}
use Rattle.trace_reader.specs.Filling.{AheadState, AreKept, AreNeeded, AreQueued, AreTooFew}
use Rattle.trace_reader.specs.Filling.{HasTaken, HasTakenOne, Stops, unnumbered}
use Rattle.trace_reader.specs.Steps.{cores_of, lane, named, ops_of, steps_of}
use Rattle.trace_reader.specs.Streams.{coming, where_known, StepsTold, Yields}
use Rattle.trace_reader.proofs.StreamLines.{yields-more}

abbrev Queues : Type 0
Queues = List (List Step)

abbrev Steps : Type 0
Steps = List (ℕ × (ℕ × Step))

pub steps-append : (core : ℕ) (xs ys : Steps) →
    steps_of core (unnumbered (xs ++ ys)) ≡ steps_of core (unnumbered xs) ++ steps_of core (unnumbered ys)
steps-append core [] ys = refl
steps-append core (x ∷ xs) ys =
    elim (cases_Bool (x.1.0 == core)) [
      | inl e ↦ rw e (ap (λ (w : List Step). x.1.1 ∷ w) (steps-append core xs ys))
      | inr e ↦ rw e (steps-append core xs ys)
    ]

pub cores-append : (xs ys : Steps) →
    cores_of (unnumbered (xs ++ ys)) ≡ max (cores_of (unnumbered xs)) (cores_of (unnumbered ys))
cores-append [] ys = omega arith
cores-append (x ∷ xs) ys = let h = cores-append xs ys in omega (arith, h)

pub named-append : (names : Bool) (words : FinMap nat_cmp ℕ) (xs ys : Steps) →
    named names words (unnumbered (xs ++ ys)) ≡ named names (named names words (unnumbered xs)) (unnumbered ys)
unfolding ops_of
named-append false words xs ys = refl
named-append true words [] ys = refl
named-append true words ((line, (core, step.Op op)) ∷ xs) ys = named-append true (insert words (address op) 0) xs ys
named-append true words ((line, (core, step.Advance)) ∷ xs) ys = named-append true words xs ys

none-named : (names : Bool) (words : FinMap nat_cmp ℕ) → named names words [] ≡ words
unfolding ops_of
none-named true words = refl
none-named false words = refl

none-kept : (keeps : Bool) (queues : Queues) → AreKept keeps queues queues []
none-kept true queues = (refl, λ core. sym (append-nil (lane queues core)))
none-kept false queues = refl

more-kept : (keeps : Bool) (a b c : Queues) (xs ys : Steps) → AreKept keeps a b xs → AreKept keeps b c ys →
    AreKept keeps a c (xs ++ ys)
more-kept true a b c xs ys p q = (
  q.0 ∙ p.0,
  λ core. q.1 core ∙ ap (λ (w : List Step). w ++ steps_of core (unnumbered ys)) (p.1 core)
      ∙ append_assoc (lane a core) (steps_of core (unnumbered xs)) (steps_of core (unnumbered ys))
      ∙ ap (λ (w : List Step). lane a core ++ w) (sym (steps-append core xs ys)),
)
more-kept false a b c xs ys p q = q ∙ p

kept-long : (keeps : Bool) (a b : Queues) (xs : Steps) → AreKept keeps a b xs → length b ≡ length a
kept-long true a b xs p = p.0
kept-long false a b xs p = ap (λ (q : Queues). length q) p

-- ---- what is taken, of any number of steps

pub none-taken : (keeps : Bool) (s : AheadState) (stream : StepStream) →
    HasTaken keeps s (record s { stream = stream }) []
none-taken keeps s stream = record {
  queued = none-kept keeps s.queues;
  met = omega arith;
  words = sym (none-named s.names s.words);
  names = refl;
  few = omega arith;
}

pub more-taken : (keeps : Bool) (a b c : AheadState) (xs ys : Steps) → HasTaken keeps a b xs → HasTaken keeps b c ys →
    HasTaken keeps a c (xs ++ ys)
more-taken keeps a b c xs ys p q = record {
  queued = more-kept keeps a.queues b.queues c.queues xs ys p.queued q.queued;
  met = let sum = cores-append xs ys in let m = p.met in let n = q.met in omega (arith, sum, m, n);
  words = q.words ∙ ap₂ (λ names words. named names words (unnumbered ys)) p.names p.words
      ∙ sym (named-append a.names a.words xs ys);
  names = q.names ∙ p.names;
  few =
      let sum = cores-append xs ys in
      let long = kept-long keeps a.queues b.queues xs p.queued in
      let one = p.few in
      let other = q.few in
      omega (arith, sum, long, one, other);
}

-- what was taken doesn't depend on the stream
pub taken-as : (keeps : Bool) (a b : AheadState) (stream : StepStream) (taken : Steps) → HasTaken keeps a b taken →
    HasTaken keeps a (record b { stream = stream }) taken
taken-as keeps a b stream taken h =
    record { queued = h.queued; met = h.met; words = h.words; names = h.names; few = h.few }

-- what is taken by now, and no more
pub none-more : (keeps : Bool) (a b c : Option StepsTold) (q r s : AheadState) (taken : Steps) → Yields a b taken →
    HasTaken keeps q r taken → Yields b c [] → HasTaken keeps r s [] → Yields a c taken × HasTaken keeps q s taken
none-more keeps a b c q r s taken yields has none same =
    subst (λ (w : Steps). Yields a c w × HasTaken keeps q s w) (append-nil taken)
    (yields-more a b c taken [] yields none, more-taken keeps q r s taken [] has same)

-- what stays to come, and then a step
pub held-taken : (keeps : Bool) (s new : AheadState) (stream : StepStream) (a b c : Option StepsTold) → Yields a b [] →
    HasTakenOne keeps b c (record s { stream = stream }) new → HasTakenOne keeps a c s new
held-taken keeps s new stream a b c p (one, yields, h) = (
  one,
  yields-more a b c [] (one ∷ []) p yields,
  record { queued = h.queued; met = h.met; words = h.words; names = h.names; few = h.few },
)

some-more : (xs ys : List Step) → xs ≢ [] → xs ++ ys ≢ []
some-more [] ys some = absurd (some refl)
some-more (x ∷ xs) ys some = λ e. absurd cc

-- queues that have steps keep them
pub still-some : (old new : Queues) (taken : Steps) (core : ℕ) → AreQueued old new taken → lane old core ≢ [] →
    lane new core ≢ []
still-some old new taken core are some = λ e.
    some-more (lane old core) (steps_of core (unnumbered taken)) some (sym (are.1 core) ∙ e)

-- ---- why no more is read

pub stops-known : (a : Option (List ℕ)) (to_come : Option StepsTold) (queues old new : ℕ) (e : AheadError) →
    Stops queues old new to_come e → Stops queues old new (where_known a to_come) e
stops-known (Some x) to_come queues old new e h = h
stops-known None to_come queues old new (Text e) (inl f) = inl f
stops-known None to_come queues old new (Text e) (inr f) = inr (f.0, f.1, tt)
stops-known None to_come queues old new (NoQueue line) h = (h.0, tt)
stops-known None to_come queues old new NoMemory h = (h.0, tt)

-- bytes that were known are known
pub known-more : (s t : StepStream) (a b : Option (List ℕ)) (taken : Steps) (to_come : Option StepsTold)
    (P : Option StepsTold → Type 0) → Yields (coming s a) (coming t b) taken → P None → P (where_known b to_come) →
    P (where_known a to_come)
known-more s t None b taken to_come P p none h = none
known-more s t (Some x) None taken to_come P p none h = absurd p
known-more s t (Some x) (Some y) taken to_come P p none h = h

-- ---- each of some queues

-- a queue has so many steps
abbrev pub HasSteps : Queues → ℕ → Type 0
HasSteps queues steps = (core : ℕ) × (core < length queues) × (steps ≡ length (lane queues core))

pub least-more : (queues : Queues) (n least : ℕ) → ((core : ℕ) → core < n → least ≤ length (lane queues core)) →
    (core : ℕ) → core < n + 1 → min least (length (lane queues n)) ≤ length (lane queues core)
least-more queues n least each core below =
    elim (cases_lt core n) [
      | inl early ↦ let h = each core early in omega (arith, h)
      | inr late ↦ let same : core ≡ n = omega (arith, below, late) in rw same (omega arith)
    ]

pub one-more : (queues : Queues) (n least : ℕ) → n < length queues → HasSteps queues least →
    HasSteps queues (min least (length (lane queues n)))
one-more queues n least below (core, there, is) =
    elim (cases_lt least (length (lane queues n))) [
      | inl less ↦ (core, there, omega (arith, is, less))
      | inr more ↦ (n, below, omega (arith, more))
    ]

-- more steps are asked for, or a queue lacks a step behind what it had
pub too-few : (wanted : ℕ) (old new : Queues) (taken : Steps) (left at : ℕ) → left ≡ wanted - length taken →
    AreQueued old new taken → lane new at ≡ [] → (0 < left) ⊎ (at < length new) → AreTooFew wanted old taken
too-few wanted old new taken left at is are none (inl more) = inl (omega (arith, is, more))
too-few wanted old new taken left at is are none (inr below) =
    inr (at, let same = are.0 in omega (arith, below, same), sym (are.1 at) ∙ none)

-- what `fill` says of the steps that it took
abbrev pub Filled : ℕ → Result Bool AheadError → Option StepsTold → Option StepsTold → AheadState → AheadState → Type 0
Filled wanted result before after old new = (taken : Steps) × Yields before after taken × HasTaken true old new taken
    × AreNeeded wanted old.queues taken × (result ≡ Ok true → wanted ≤ length taken)
    × (result ≢ Ok true → AreTooFew wanted old.queues taken)

-- no step comes behind these, which are too few
pub no-more : (wanted : ℕ) (result : Result Bool AheadError) (a b c : Option StepsTold) (q r s : AheadState)
    (taken : Steps) → result ≢ Ok true → Yields a b taken → HasTaken true q r taken → AreNeeded wanted q.queues taken →
    AreTooFew wanted q.queues taken → Yields b c [] × HasTaken true r s [] → Filled wanted result a c q s
no-more wanted result a b c q r s taken not yields has needed few none =
    let all = none-more true a b c q r s taken yields has none.0 none.1 in
    (taken, all.0, all.1, needed, λ is. absurd (not is), λ is. few)
