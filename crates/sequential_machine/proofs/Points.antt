-- Points and the words in them: what an operation leaves, and what a thread has received.
use Rattle.std.proofs.Common.{◌≡◌, ◌≢◌, ℕ, zero, suc, ◌<◌, Bool, true, false, cond, List, [], ◌∷◌, ◌++◌, length}
use Rattle.std.proofs.Common.{Option, Some, refl, sym, ap, ◌∙◌, arith}
use Rattle.std.proofs.lemmas.Bool.{cases_eq, eq-eqb, ne_eqb}
use Rattle.std.proofs.lemmas.Bool.Decides.{nat_tests}
use Rattle.std.proofs.lemmas.Grind.{common_steps}
use Rattle.std.specs.Prelude.{replicate, slice_index_or, unwrap_or}
use Rattle.std.specs.FinMap as finite
use Rattle.std.specs.FinMap.{get-entries}
use Rattle.std.specs.Ordering.{nat_cmp}
use Rattle.physiological_order.specs.declared.operation.Op.{Op}
use Rattle.physiological_order.specs.declared.operation.Op.TheVariants as op
use Rattle.physiological_order.specs.Order.{Memory, flat_after, flat_received, with_word}
use Rattle.litmus_parser.specs.declared.syntax.Cell.{Cell}
use Rattle.litmus_parser.specs.declared.syntax.Instruction.{Instruction}
use Rattle.litmus_parser.specs.declared.syntax.Instruction.TheVariants as does
use Rattle.litmus_reader.specs.Litmus.{Litmus}
use Rattle.litmus_reader.specs.OpeningMemory.{words_opened}
use Rattle.litmus_reader.specs.ThreadSteps.{Thread, register_value, instruction_operation, next_operation, received_by}
use Rattle.litmus_reader.specs.ThreadSteps.{behind_first_cell, done_with, settled_thread}
use Rattle.sequential_machine.specs.SequentialMachine.{memory_opened}
use Rattle.sequential_machine.specs.Turns.{Point, word_in, with_word_in, words_after, value_for, resumed}
use Rattle.sequential_machine.specs.Turns.{thread_started, thread_at, operation_at, with_received, turned, words_set}
use Rattle.sequential_machine.specs.Turns.{point_opened, Reached, opened, turn}

-- ---- words

word_here : (words : List ℕ) (a v : ℕ) → word_in (with_word_in words a v) a ≡ v
word_here [] zero v = refl
word_here [] (suc a) v = word_here [] a v
word_here (w ∷ words) zero v = refl
word_here (w ∷ words) (suc a) v = word_here words a v

word_else : (words : List ℕ) (a v b : ℕ) → b ≢ a → word_in (with_word_in words a v) b ≡ word_in words b
word_else [] zero v zero ne = absurd (ne refl)
word_else [] zero v (suc b) ne = refl
word_else [] (suc a) v zero ne = refl
word_else [] (suc a) v (suc b) ne = word_else [] a v b (λ e. ne (ap suc e))
word_else (w ∷ words) zero v zero ne = absurd (ne refl)
word_else (w ∷ words) zero v (suc b) ne = refl
word_else (w ∷ words) (suc a) v zero ne = refl
word_else (w ∷ words) (suc a) v (suc b) ne = word_else words a v b (λ e. ne (ap suc e))

word_set : (words : List ℕ) (a v b : ℕ) → word_in (with_word_in words a v) b ≡ with_word (word_in words) a v b
word_set words a v b = grind (arith, nat_tests, common_steps, cases_eq, eq-eqb, ne_eqb, word_else, word_here)

pub memory_set : (words : List ℕ) (x : Op) → word_in (words_after words x) ≡ flat_after (word_in words) x
memory_set words (op.Load a) = refl
memory_set words (op.Store a v) = λ i b. word_set words a v b i
memory_set words (op.Swap a v) = λ i b. word_set words a v b i

either_way : (b : Bool) (v : ℕ) (o : Option ℕ) → cond b v (unwrap_or o 0) ≡ unwrap_or (cond b (Some v) o) 0
either_way true v o = refl
either_way false v o = refl

entry_set : (es : List (ℕ × ℕ)) (a : ℕ) → word_in (words_set es) a ≡ unwrap_or (finite.find nat_cmp a es) 0
entry_set [] a = refl
entry_set (e ∷ es) a = let q0 = entry_set es a in grind (arith, nat_tests, common_steps, q0, either_way, word_set)

pub memory_opens : (test : Litmus) → word_in (point_opened test).words ≡ memory_opened test
memory_opens test = λ i a.
    (entry_set (finite.entries (words_opened test.items finite.empty)) a
    ∙ ap (λ (o : Option ℕ). unwrap_or o 0) (sym (get-entries (words_opened test.items finite.empty) a))) i

-- ---- what threads received

pub nothing_received : (n t : ℕ) → slice_index_or (let lists : List (List ℕ) = replicate n [] in lists) t [] ≡ []
nothing_received zero t = refl
nothing_received (suc n) zero = refl
nothing_received (suc n) (suc t) = nothing_received n t

pub received_here : (lists : List (List ℕ)) (t v : ℕ) → t < length lists →
    slice_index_or (with_received lists t v) t [] ≡ slice_index_or lists t [] ++ v ∷ []
received_here [] t v lt = absurd (omega arith)
received_here (vs ∷ lists) zero v lt = refl
received_here (vs ∷ lists) (suc t) v lt = received_here lists t v (omega arith)

pub received_elsewhere : (lists : List (List ℕ)) (t v u : ℕ) → u ≢ t →
    slice_index_or (with_received lists t v) u [] ≡ slice_index_or lists u []
received_elsewhere [] t v u ne = refl
received_elsewhere (vs ∷ lists) zero v zero ne = absurd (ne refl)
received_elsewhere (vs ∷ lists) zero v (suc u) ne = refl
received_elsewhere (vs ∷ lists) (suc t) v zero ne = refl
received_elsewhere (vs ∷ lists) (suc t) v (suc u) ne = received_elsewhere lists t v u (λ e. ne (ap suc e))

received_length : (lists : List (List ℕ)) (t v : ℕ) → length (with_received lists t v) ≡ length lists
received_length [] t v = refl
received_length (vs ∷ lists) zero v = refl
received_length (vs ∷ lists) (suc t) v = ap suc (received_length lists t v)

none_length : (n : ℕ) → length (let lists : List (List ℕ) = replicate n [] in lists) ≡ n
none_length zero = refl
none_length (suc n) = ap suc (none_length n)

pub lists_count : (test : Litmus) (k : ℕ) (p : Point) → Reached test k p → length p.received ≡ test.threads
lists_count test _ _ opened = none_length test.threads
lists_count test _ _ (turn {k = k} {p = p} t x r lt is) =
    received_length p.received t (value_for p.words x) ∙ lists_count test k p r

-- ---- threads

one_more : (q : Thread) (vs : List ℕ) (v : ℕ) → resumed q (vs ++ v ∷ []) ≡ done_with (resumed q vs) (Some v)
one_more q [] v = refl
one_more q (w ∷ vs) v = one_more (done_with q (Some w)) vs v

pub same_some : {X : Type 0} (x y : X) → Some x ≡ Some y → x ≡ y
same_some x y e = cc

-- a store receives nothing, whatever it is told
as_told : (i : Instruction) (rs : List ℕ) (x : Op) (m : Memory) → instruction_operation i rs ≡ Some x →
    received_by i (Some (unwrap_or (flat_received m x) 0)) rs ≡ received_by i (flat_received m x) rs
as_told (does.Load target location) rs x m e =
    rw (← same_some (op.Load location) x e) refl
as_told (does.Store source location) rs x m e = refl
as_told (does.Swap target source location) rs x m e =
    rw (← same_some (op.Swap location (register_value rs source)) x e) refl
as_told (does.Set target value) rs x m e = absurd cc
as_told does.Fence rs x m e = absurd cc

first_told : (t : ℕ) (rs : List ℕ) (cells : List Cell) (x : Op) (m : Memory) →
    next_operation (record { thread = t; registers = rs; rest = cells }) ≡ Some x →
    behind_first_cell t rs (Some (unwrap_or (flat_received m x) 0)) cells
    ≡ behind_first_cell t rs (flat_received m x) cells
first_told t rs [] x m e = refl
first_told t rs (c ∷ cells) x m e =
    ap (λ (ns : List ℕ). settled_thread t ns cells) (as_told c.instruction rs x m e)

told : (q : Thread) (x : Op) (m : Memory) → next_operation q ≡ Some x →
    done_with q (Some (unwrap_or (flat_received m x) 0)) ≡ done_with q (flat_received m x)
told q x m e = first_told q.thread q.registers q.rest x m e

-- the thread whose turn it was, and the others
pub turned_here : (test : Litmus) (p : Point) (t : ℕ) (x : Op) → t < length p.received →
    operation_at test p t ≡ Some x →
    thread_at test (turned p t x) t ≡ done_with (thread_at test p t) (flat_received (word_in p.words) x)
turned_here test p t x lt is = grind (arith, nat_tests, common_steps, one_more, received_here, told)

pub turned_elsewhere : (test : Litmus) (p : Point) (t : ℕ) (x : Op) (u : ℕ) → u ≢ t →
    thread_at test (turned p t x) u ≡ thread_at test p u
turned_elsewhere test p t x u ne =
    ap (resumed (thread_started test u)) (received_elsewhere p.received t (value_for p.words x) u ne)
