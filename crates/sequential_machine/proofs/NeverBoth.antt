-- Of two threads that each store 1 and then load the other's location, never both receive 0.
use Rattle.std.proofs.Common.{◌≡◌, ◌≢◌, ℕ, zero, suc, ◌≤◌, List, [], ◌∷◌, Option, Some, None, ◌⊎◌, inl, inr}
use Rattle.std.proofs.Common.{refl, sym, ap₂, ◌∙◌, subst, arith, ⊎_elim}
use Rattle.std.proofs.lemmas.Bool.Decides.{nat_tests}
use Rattle.std.proofs.lemmas.Grind.{common_steps}
use Rattle.std.specs.Prelude.{replicate}
use Rattle.litmus_parser.specs.declared.syntax.Cell.{Cell}
use Rattle.litmus_parser.specs.declared.syntax.Instruction.{Instruction}
use Rattle.litmus_parser.specs.declared.syntax.Instruction.TheVariants as does
use Rattle.litmus_reader.specs.ThreadSteps.{register_value, with_register, with_items}
use Rattle.sequential_machine.specs.SequentialMachine.{SequentialState, sequential_opening, memory_after}
use Rattle.sequential_machine.specs.SequentialMachine.{registers_after}
use Rattle.sequential_machine.specs.SequentialMachine.{after_one, Step, next, Steps, none, more, IsOutcome}
use Rattle.sequential_machine.specs.Example.{cell, store_buffering}
use Rattle.sequential_machine.proofs.Tables.{elsewhere}
use Rattle.sequential_machine.proofs.Steps.{unset}

-- how far a thread is
data Place : Type 0 where
  Begins : Place
  HasSet : Place
  HasStored : Place
  HasLoaded : (value : ℕ) → Place

-- what is left to a thread that stores to the location of its own number, and loads that of the other
abbrev left_at : (t u : ℕ) → Place → List Cell
left_at t u Begins = cell t (does.Set 5 1) ∷ cell t (does.Store 5 t) ∷ cell t (does.Load 6 u) ∷ []
left_at t u HasSet = cell t (does.Store 5 t) ∷ cell t (does.Load 6 u) ∷ []
left_at t u HasStored = cell t (does.Load 6 u) ∷ []
left_at t u (HasLoaded value) = []

abbrev registers_at : Place → List ℕ
registers_at Begins = replicate 32 0
registers_at HasSet = with_register (replicate 32 0) 5 1
registers_at HasStored = with_register (replicate 32 0) 5 1
registers_at (HasLoaded value) = with_register (with_register (replicate 32 0) 5 1) 6 value

-- the word of a thread's own location
abbrev word_at : Place → ℕ
word_at Begins = 0
word_at HasSet = 0
word_at HasStored = 1
word_at (HasLoaded value) = 1

record IsAt (s : SequentialState) (t u : ℕ) (p : Place) : Type 0 where
  pub left : s.left t ≡ left_at t u p
  pub registers : s.registers t ≡ registers_at p
  pub word : s.memory t ≡ word_at p

-- what a thread has received
abbrev received_at : Place → Option ℕ
received_at (HasLoaded value) = Some value
received_at _ = None

-- where both have received, one of them received 1
abbrev OneOf : Place → Place → Type 0
OneOf p q = (v w : ℕ) → received_at p ≡ Some v → received_at q ≡ Some w → (v ≡ 1) ⊎ (w ≡ 1)

turned : (p q : Place) → OneOf p q → OneOf q p
turned p q h = λ v w a b. ⊎_elim (λ (e : w ≡ 1). inr e) (λ (e : v ≡ 1). inl e) (h w v b a)

-- a thread that loads behind the other's load receives the other's store
loads : (q : Place) → OneOf (HasLoaded (word_at q)) q
loads (HasLoaded x) = λ v w a b. inl cc
loads _ = λ v w a b. absurd cc

-- a thread has come to a place, and the other is where it was
record Comes (s : SequentialState) (t u : ℕ) (q : Place) : Type 0 where
  pub place : Place
  pub own : IsAt s t u place
  pub other : IsAt s u t q
  pub one_of : OneOf place q

comes_to : (s : SequentialState) (t u : ℕ) (p q : Place) (i : Instruction) (rest : List Cell) → u ≢ t → rest
    ≡ left_at t u p →
    registers_after i (s.registers t) s.memory ≡ registers_at p →
    memory_after i (s.registers t) s.memory t ≡ word_at p → memory_after i (s.registers t) s.memory u ≡ s.memory u →
    OneOf p q → IsAt s u t q → Comes (after_one s t i rest) t u q
comes_to s t u p q i rest ne left registers word same one_of other = grind (arith, nat_tests, common_steps, elsewhere)

both_same : {X : Type 0} (x y : X) (xs ys : List X) → x ∷ xs ≡ y ∷ ys → (x ≡ y) × (ys ≡ xs)
both_same x y xs ys e = (cc, cc)

comes : (s : SequentialState) (t u : ℕ) (p q : Place) (c : Cell) (rest : List Cell) → u ≢ t → left_at t u p ≡ c ∷ rest →
    IsAt s t u p → IsAt s u t q → Comes (after_one s t c.instruction rest) t u q
comes s t u Begins q c rest ne l own other = grind (arith, nat_tests, common_steps, both_same, comes_to)
comes s t u HasSet q c rest ne l own other = grind (arith, nat_tests, common_steps, both_same, comes_to, elsewhere)
comes s t u HasStored q c rest ne l own other =
    let e = both_same (cell t (does.Load 6 u)) c [] rest l in
    subst (λ (x : Cell). Comes (after_one s t x.instruction rest) t u q) e.0
    (comes_to s t u (HasLoaded (word_at q)) q (does.Load 6 u) rest ne e.1
    (ap₂ (λ (rs : List ℕ) (n : ℕ). with_register rs 6 n) own.registers other.word) own.word refl (loads q) other)
comes s t u (HasLoaded v) q c rest ne l own other = absurd cc

-- what holds of every state
record Stands (s : SequentialState) : Type 0 where
  pub first : Place
  pub second : Place
  pub own : IsAt s 0 1 first
  pub other : IsAt s 1 0 second
  pub one_of : OneOf first second
  pub no_others : (t : ℕ) → 2 ≤ t → s.left t ≡ []

opens : Stands (sequential_opening store_buffering)
unfolding with_items
opens = let q0 = unset 0 in let q1 = unset 1 in grind (arith, nat_tests, q0, q1)

turn_keeps : (s : SequentialState) (t : ℕ) (c : Cell) (rest : List Cell) → s.left t ≡ c ∷ rest → Stands s →
    Stands (after_one s t c.instruction rest)
turn_keeps s zero c rest l h =
    let n = comes s 0 1 h.first h.second c rest (λ e. absurd (omega arith)) (sym h.own.left ∙ l) h.own h.other in
    record {
      first = n.place;
      second = h.second;
      own = n.own;
      other = n.other;
      one_of = n.one_of;
      no_others =
          λ u le. elsewhere s.left 0 rest u (λ e. absurd (omega arith)) ∙ h.no_others u le;
    }
turn_keeps s (suc zero) c rest l h =
    let n = comes s 1 0 h.second h.first c rest (λ e. absurd (omega arith)) (sym h.other.left ∙ l) h.other h.own in
    record {
      first = h.first;
      second = n.place;
      own = n.other;
      other = n.own;
      one_of = turned n.place h.first n.one_of;
      no_others = λ u le. elsewhere s.left 1 rest u (λ e. absurd (omega arith)) ∙ h.no_others u le;
    }
turn_keeps s (suc (suc t)) c rest l h = absurd (let e = sym (h.no_others (suc (suc t)) (omega arith)) ∙ l in cc)

step_keeps : (s u : SequentialState) → Step s u → Stands s → Stands u
step_keeps s u (next t c rest l) h = turn_keeps s t c rest l h

steps_keep : (s u : SequentialState) → Steps s u → Stands s → Stands u
steps_keep s u none h = h
steps_keep s u (more {u = w} a b) h = step_keeps w u b (steps_keep s w a h)

-- no two places where both threads are through, and have 0
no_end : (p q : Place) → OneOf p q → left_at 0 1 p ≡ [] → left_at 1 0 q ≡ [] → 0 ≡ register_value (registers_at p) 6 →
    0 ≡ register_value (registers_at q) 6 → ⊥
no_end Begins q h a b v w = absurd cc
no_end (HasLoaded x) (HasLoaded y) h a b v w =
    ⊎_elim (λ (e : x ≡ 1). omega arith) (λ (e : y ≡ 1). omega arith) (h x y refl refl)
no_end _ _ h a b v w = absurd cc

values_of : (v w x y : ℕ) → v ∷ w ∷ [] ≡ x ∷ y ∷ [] → (v ≡ x) × (w ≡ y)
values_of v w x y e = (cc, cc)

pub never_both : IsOutcome store_buffering (0 ∷ 0 ∷ []) → ⊥
never_both o = grind (arith, nat_tests, common_steps, no_end, opens, steps_keep, values_of)
