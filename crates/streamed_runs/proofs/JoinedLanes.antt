-- The steps of each core, with more of them behind, and how a run ends where more is to come.
use Rattle.std.proofs.Common.{◌≡◌, ◌≢◌, ℕ, zero, suc, ◌<◌, ◌==◌, Bool, false, true, List, [], ◌∷◌, ◌++◌, length}
use Rattle.std.proofs.Common.{inl, inr, refl, sym, ap, ap₂, ◌∙◌, arith, append-nil, length-append, replicate}
use Rattle.std.proofs.lemmas.Bool.{cases_lt, ne_eqb}
use Rattle.std.specs.List.{list_all}
use Rattle.std.proofs.lemmas.List.{ext_get_or, get_or_past, length-replicate}
use Rattle.std.proofs.lemmas.List.Folds.{list_all_at}
use Rattle.programs.specs.declared.ends.End.{End}
use Rattle.programs.specs.declared.ends.End.TheVariants.{AllDone, TurnsUsed, Stalled, Exhausted, NoMemory}
use Rattle.programs.specs.declared.steps.Step.{Step}
use Rattle.schedules.specs.LongerLists.{end_before, joined}
use Rattle.trace_reader.specs.Filling.{AreQueued, unnumbered}
use Rattle.trace_reader.specs.Steps.{lane, steps_of}
use Rattle.trace_reader.proofs.Lemmas.{steps-append}
use Rattle.streamed_runs.specs.StreamStates.{lanes_for, MayFollow}

abbrev Lanes : Type 0
Lanes = List (List Step)

abbrev Steps : Type 0
Steps = List (ℕ × (ℕ × Step))

pub lane_joined : (lanes behind : Lanes) (core : ℕ) → length behind ≡ length lanes →
    lane (joined lanes behind) core ≡ lane lanes core ++ lane behind core
lane_joined [] [] core same = refl
lane_joined [] (more ∷ behind) core same = absurd (omega (arith, same))
lane_joined (steps ∷ lanes) [] core same = absurd (omega (arith, same))
lane_joined (steps ∷ lanes) (more ∷ behind) zero same = refl
lane_joined (steps ∷ lanes) (more ∷ behind) (suc core) same = lane_joined lanes behind core (omega (arith, same))

pub length_joined : (lanes behind : Lanes) → length behind ≡ length lanes →
    length (joined lanes behind) ≡ length lanes
length_joined [] behind same = refl
length_joined (steps ∷ lanes) [] same = absurd (omega (arith, same))
length_joined (steps ∷ lanes) (more ∷ behind) same =
    let rest = length_joined lanes behind (omega (arith, same)) in omega (arith, rest)

-- two lists of lanes are one if each lane is
same_lanes : (some others : Lanes) → length some ≡ length others →
    ((core : ℕ) → core < length some → lane some core ≡ lane others core) → some ≡ others
same_lanes some others = ext_get_or [] some others

pub lanes_count : (n : ℕ) (steps : List (ℕ × Step)) → length (lanes_for n steps) ≡ n
lanes_count zero steps = refl
lanes_count (suc n) steps =
    let all = length-append (lanes_for n steps) (steps_of n steps ∷ []) in let before = lanes_count n steps in
    omega (arith, all, before)

last_lane : (lanes : Lanes) (steps : List Step) → lane (lanes ++ steps ∷ []) (length lanes) ≡ steps
last_lane [] steps = refl
last_lane (first ∷ lanes) steps = last_lane lanes steps

earlier_lane : (lanes : Lanes) (steps : List Step) (core : ℕ) → core < length lanes →
    lane (lanes ++ steps ∷ []) core ≡ lane lanes core
earlier_lane [] steps core below = absurd (omega (arith, below))
earlier_lane (first ∷ lanes) steps zero below = refl
earlier_lane (first ∷ lanes) steps (suc core) below = earlier_lane lanes steps core (omega (arith, below))

pub lane_of : (n : ℕ) (steps : List (ℕ × Step)) (core : ℕ) → core < n → lane (lanes_for n steps) core ≡ steps_of core
    steps
lane_of zero steps core below = absurd (omega (arith, below))
lane_of (suc n) steps core below = elim (cases_lt core n) [
  | inl less ↦ let count = lanes_count n steps in
      earlier_lane (lanes_for n steps) (steps_of n steps) core (omega (arith, less, count))
      ∙ lane_of n steps core less
  | inr other ↦ let is : core ≡ n = omega (arith, below, other) in let count = lanes_count n steps in
      ap (λ (k : ℕ). lane (lanes_for (suc n) steps) k) (is ∙ sym count)
      ∙ last_lane (lanes_for n steps) (steps_of n steps)
      ∙ ap (λ (k : ℕ). steps_of k steps) (sym is)
]

pub lanes_joined : (n : ℕ) (taken more : Steps) →
    lanes_for n (unnumbered (taken ++ more)) ≡ joined (lanes_for n (unnumbered taken)) (lanes_for n (unnumbered more))
lanes_joined n taken more =
    let all = lanes_count n (unnumbered (taken ++ more)) in let first = lanes_count n (unnumbered taken) in
    let rest = lanes_count n (unnumbered more) in
    let both = length_joined (lanes_for n (unnumbered taken)) (lanes_for n (unnumbered more)) (rest ∙ sym first) in
    same_lanes _ _ (all ∙ sym first ∙ sym both)
    (λ core below. let under : core < n = omega (arith, below, all) in
    lane_of n (unnumbered (taken ++ more)) core under ∙ steps-append core taken more
    ∙ ap₂ (λ (xs ys : List Step). xs ++ ys) (sym (lane_of n (unnumbered taken) core under))
    (sym (lane_of n (unnumbered more) core under))
    ∙ sym (lane_joined (lanes_for n (unnumbered taken)) (lanes_for n (unnumbered more)) core (rest ∙ sym first)))

-- what was queued stands behind what was there
pub queues_joined : (n : ℕ) (old new : Lanes) (taken : Steps) → length old ≡ n → AreQueued old new taken →
    new ≡ joined old (lanes_for n (unnumbered taken))
queues_joined n old new taken many are =
    let rest = lanes_count n (unnumbered taken) in
    let both = length_joined old (lanes_for n (unnumbered taken)) (rest ∙ sym many) in
    same_lanes _ _ (are.0 ∙ sym both)
    (λ core below. let count = are.0 in let under : core < n = omega (arith, below, count, many) in
    are.1 core ∙ ap (λ (xs : List Step). lane old core ++ xs) (sym (lane_of n (unnumbered taken) core under))
    ∙ sym (lane_joined old (lanes_for n (unnumbered taken)) core (rest ∙ sym many)))

-- nothing may always follow
pub nothing_in : (n core : ℕ) → lane (replicate n []) core ≡ []
nothing_in zero core = refl
nothing_in (suc n) zero = refl
nothing_in (suc n) (suc core) = nothing_in n core

pub nothing_follows : (at_end : Bool) (n : ℕ) → MayFollow at_end (replicate n [])
nothing_follows true n = nothing_in n
nothing_follows false n = tt

pub nothing_behind : (lanes : Lanes) (n : ℕ) → length lanes ≡ n → joined lanes (replicate n []) ≡ lanes
nothing_behind lanes n many =
    let none = length-replicate n [] in let same = none ∙ sym many in
    same_lanes _ _ (length_joined lanes (replicate n []) same)
    (λ core below. lane_joined lanes (replicate n []) core same
    ∙ ap (λ (xs : List Step). lane lanes core ++ xs) (nothing_in n core) ∙ append-nil (lane lanes core))

pub no_steps : (n : ℕ) → lanes_for n [] ≡ replicate n []
no_steps n =
    let none = lanes_count n [] in
    same_lanes _ _ (none ∙ sym (length-replicate n []))
    (λ core below. lane_of n [] core (omega (arith, below, none)) ∙ sym (nothing_in n core))

-- ---- how a run ends where more is to come

none_left : (steps : List Step) → steps ≢ [] → (length steps == 0) ≡ false
none_left [] some = absurd (some refl)
none_left (step ∷ steps) some = ne_eqb (length (step ∷ steps)) 0 (λ e. omega (arith, e))

pub ends_later : (behind : Lanes) (core : ℕ) → lane behind core ≢ [] → end_before behind AllDone ≡ TurnsUsed
ends_later behind core some = elim (cases_lt core (length behind)) [
  | inl below ↦ rw (list_all_at (λ (steps : List Step). length steps == 0) behind core [] below
      (none_left (lane behind core) some)) refl
  | inr other ↦ absurd (some (get_or_past behind core [] (omega (arith, other))))
]

all_empty : (behind : Lanes) → ((core : ℕ) → lane behind core ≡ []) →
    list_all (λ (steps : List Step). length steps == 0) behind ≡ true
all_empty [] none = refl
all_empty (steps ∷ behind) none = rw (none 0) (all_empty behind (λ core. none (suc core)))

pub ends_now : (behind : Lanes) → ((core : ℕ) → lane behind core ≡ []) → end_before behind AllDone ≡ AllDone
ends_now behind none = rw (all_empty behind none) refl

pub ends_here : (n : ℕ) (end : End) → end_before (replicate n []) end ≡ end
ends_here n AllDone = ends_now (replicate n []) (nothing_in n)
ends_here n Stalled = refl
ends_here n TurnsUsed = refl
ends_here n Exhausted = refl
ends_here n NoMemory = refl
