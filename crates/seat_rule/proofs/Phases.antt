-- Slots and seats that are out: what stays so when one slot or one seat changes.
use Rattle.std.proofs.Common.{◌≡◌, ◌≢◌, ℕ, refl, ◌∙◌, arith}
use Rattle.std.proofs.lemmas.Bool.Decides.{nat_tests}
use lib.ListN.{get_elem?}
use Rattle.network.specs.declared.message.Message.{Message}
use Rattle.seat_views.specs.Seated.{with_value_at}
use Rattle.seat_views.proofs.Lemmas.{put_else, at_put}
use Rattle.seat_rule.specs.declared.views.Stage.{Stage}
use Rattle.seat_rule.specs.declared.views.Stage.TheVariants.{Idle, Writing, Reading}
use Rattle.seat_rule.specs.declared.views.Hold.{Hold}
use Rattle.seat_rule.specs.Rule.{Phase, free, writing, full, reading, Homes, InPhase, At, Busy}

put_same : {A : Type 0} → (f : ℕ → A) (i j : ℕ) → with_value_at f i (f i) j ≡ f j
put_same f i j = at_put f i (f i) (λ q x. x ≡ f q) j refl (λ _. refl)

-- the seat isn't out with slot k
abbrev pub Elsewhere : ℕ → Stage → Type 0
Elsewhere k Idle = Unit {0}
Elsewhere k (Writing i) = i ≢ k
Elsewhere k (Reading i m) = i ≢ k

-- the seat is out with no slot but k
abbrev pub Only : ℕ → Stage → Type 0
Only k Idle = Unit {0}
Only k (Writing i) = i ≡ k
Only k (Reading i m) = i ≡ k

module _ (from to : ℕ → ℕ) where
  module _ (slots : ℕ) (phases : ℕ → Phase) (j k : ℕ) where
    pub at_elsewhere : (phase : Phase) (stage : Stage) → Elsewhere k stage → At from to slots phases j stage →
        At from to slots (with_value_at phases k phase) j stage
    at_elsewhere phase Idle e a = tt
    at_elsewhere phase (Writing i) e a = (a.0, a.1, put_else phases k phase i e ∙ a.2)
    at_elsewhere phase (Reading i m) e a = (a.0, a.1, put_else phases k phase i e ∙ a.2)

    pub at_same : (stage : Stage) → At from to slots phases j stage →
        At from to slots (with_value_at phases k (phases k)) j stage
    at_same Idle a = tt
    at_same (Writing i) a = (a.0, a.1, put_same phases k i ∙ a.2)
    at_same (Reading i m) a = (a.0, a.1, put_same phases k i ∙ a.2)

  -- a slot other than the one that a seat is out with stays out with its own seat
  module _ (seats : ℕ → Hold) (id k : ℕ) (h : Hold) (i : ℕ) (only : Only k (seats id).stage) (ne : i ≢ k) where
    stays_out : (j : ℕ) (stage : Stage) → (Only k stage → i ≡ k) → (seats j).stage ≡ stage →
        (with_value_at seats id h j).stage ≡ stage
    stays_out j stage here is = grind (arith, nat_tests)

    pub busy_moves : (phase : Phase) → Busy from to (λ j. (seats j).stage) i phase →
        Busy from to (λ j. (with_value_at seats id h j).stage) i phase
    busy_moves free b = tt
    busy_moves writing b = stays_out (from i) (Writing i) (λ o. o) b
    busy_moves (full m) b = tt
    busy_moves (reading m) b = stays_out (to i) (Reading i m) (λ o. o) b

-- a slot whose word and value stay, stays in its phase
pub phase_moves : (word word' : ℕ) (homes homes' : Homes) (k : ℕ) (phase : Phase) → word' ≡ word →
    get_elem? homes' k ≡ get_elem? homes k → InPhase word homes k phase → InPhase word' homes' k phase
phase_moves word word' homes homes' k free e f p = (e ∙ p.0, f ∙ p.1)
phase_moves word word' homes homes' k writing e f p = e ∙ p
phase_moves word word' homes homes' k (full m) e f p = (e ∙ p.0, f ∙ p.1)
phase_moves word word' homes homes' k (reading m) e f p = e ∙ p

-- Phases and stages differ
pub idle_writing : {A : Type 0} {k : ℕ} → Idle ≡ Writing k → A
idle_writing e = cc

pub idle_reading : {A : Type 0} {k : ℕ} {m : Message} → Idle ≡ Reading k m → A
idle_reading e = cc

pub free_reading : {A : Type 0} {m : Message} → free ≡ reading m → A
free_reading e = cc

pub full_writing : {A : Type 0} {m : Message} → full m ≡ writing → A
full_writing e = cc

pub writing_reading : {A : Type 0} {m : Message} → writing ≡ reading m → A
writing_reading e = cc

pub reading_writing : {A : Type 0} {m : Message} → reading m ≡ writing → A
reading_writing e = cc
