-- A test has no more turns than each of its threads has instructions.
use Rattle.std.proofs.Common.{◌≡◌, ℕ, zero, suc, ◌+◌, ◌*◌, ◌<◌, ◌≤◌, eqb, List, [], ◌∷◌, length, Option, Some, None}
use Rattle.std.proofs.Common.{refl, sym, ap, ◌∙◌, subst, arith, length-append, inl, inr}
use Rattle.std.specs.Prelude.{slice_index_or, replicate}
use Rattle.std.specs.Option.{option_map_or}
use Rattle.std.proofs.lemmas.Bool.{cases_eq, cond_both}
use Rattle.std.proofs.Math.Nat.{suc-mul}
use Rattle.physiological_order.specs.declared.operation.Op.{Op}
use Rattle.physiological_order.specs.Order.{flat_received}
use Rattle.litmus_parser.specs.declared.syntax.Cell.{Cell}
use Rattle.litmus_reader.specs.Litmus.{Litmus}
use Rattle.litmus_reader.specs.ThreadSteps.{Thread, after_local, settled_thread, next_operation, received_by}
use Rattle.litmus_reader.specs.ThreadSteps.{behind_first_cell}
use Rattle.sequential_machine.specs.SequentialMachine.{registers_opened}
use Rattle.sequential_machine.specs.Turns.{Point, word_in, value_for, thread_at, with_received, Reached, opened, turn}
use Rattle.sequential_machine.proofs.Points.{nothing_received, received_here, received_elsewhere, lists_count}
use Rattle.sequential_machine.proofs.Points.{turned_here, turned_elsewhere}

settled_shorter : (t : ℕ) (rs : List ℕ) (cells : List Cell) → length (settled_thread t rs cells).rest ≤ length cells
unfolding settled_thread
settled_shorter t rs [] = omega arith
settled_shorter t rs (c ∷ cells) =
    cond_both (eqb c.thread t) (option_map_or (λ ns. settled_thread t ns cells) (after_local c.instruction rs) stop)
    (settled_thread t rs cells) (λ (q : Thread). length q.rest ≤ length (c ∷ cells))
    (λ _. on (λ ns. settled_shorter t ns cells) (after_local c.instruction rs))
    (λ _. let le = settled_shorter t rs cells in omega (arith, le))
  where
    stop : Thread
    stop = record { thread = t; registers = rs; rest = c ∷ cells }

    on : ((ns : List ℕ) → length (settled_thread t ns cells).rest ≤ length cells) → (o : Option (List ℕ)) →
        length (option_map_or (λ ns. settled_thread t ns cells) o stop).rest ≤ length (c ∷ cells)
    on further None = omega arith
    on further (Some ns) = let le = further ns in omega (arith, le)

done_shorter : (t : ℕ) (rs : List ℕ) (cells : List Cell) (o : Option ℕ) (x : Op) →
    next_operation (record { thread = t; registers = rs; rest = cells }) ≡ Some x →
    length (behind_first_cell t rs o cells).rest < length cells
done_shorter t rs [] o x e = absurd cc
done_shorter t rs (c ∷ cells) o x e =
    let le = settled_shorter t (received_by c.instruction o rs) cells in omega (arith, le)

-- what a thread has received, and what it has left
abbrev AreFew : Litmus → Point → ℕ → Type 0
AreFew test p t =
    length (slice_index_or p.received t []) + length (thread_at test p t).rest ≤ length test.cells

are_few : (test : Litmus) (k : ℕ) (p : Point) → Reached test k p → (t : ℕ) → AreFew test p t
are_few test _ _ opened t =
    let le = settled_shorter t (registers_opened test t) test.cells in
    rw (nothing_received test.threads t) (omega (arith, le))
are_few test _ _ (turn {k = k} {p = p} t x r lt is) u =
    let before = are_few test k p r u in
    let there = lists_count test k p r in
    elim (cases_eq u t) [
      | inl e ↦
          let q = thread_at test p t in
          let list = ap length (received_here p.received t (value_for p.words x) (omega (arith, lt, there)))
          ∙ length-append (slice_index_or p.received t []) (value_for p.words x ∷ []) in
          let rest = ap (λ (q : Thread). length q.rest) (turned_here test p t x (omega (arith, lt, there)) is) in
          let less = done_shorter q.thread q.registers q.rest (flat_received (word_in p.words) x) x is in
          let before = are_few test k p r t in rw e (omega (arith, before, list, rest, less))
      | inr ne ↦
          let list = ap length (received_elsewhere p.received t (value_for p.words x) u ne) in
          let rest = ap (λ (q : Thread). length q.rest) (turned_elsewhere test p t x u ne) in
          omega (arith, before, list, rest)
    ]

total : List (List ℕ) → ℕ
total [] = 0
total (vs ∷ lists) = length vs + total lists

total_none : (n : ℕ) → total (let lists : List (List ℕ) = replicate n [] in lists) ≡ 0
unfolding total
total_none zero = refl
total_none (suc n) = let e = total_none n in omega (arith, e)

total_more : (lists : List (List ℕ)) (t v : ℕ) → t < length lists → total (with_received lists t v) ≡ suc (total lists)
unfolding total
total_more [] t v lt = absurd (omega (arith, lt))
total_more (vs ∷ lists) zero v lt = let e = length-append vs (v ∷ []) in omega (arith, e)
total_more (vs ∷ lists) (suc t) v lt = let e = total_more lists t v (omega (arith, lt)) in omega (arith, e)

total_few : (lists : List (List ℕ)) (most : ℕ) → ((t : ℕ) → length (slice_index_or lists t []) ≤ most) →
    total lists ≤ length lists * most
unfolding total
total_few [] most few = omega arith
total_few (vs ∷ lists) most few =
    let one : length vs ≤ most = few 0 in
    let others = total_few lists most (λ t. few (suc t)) in
    let product = suc-mul (length lists) most in
    omega (arith, one, others, product)

turns_are : (test : Litmus) (k : ℕ) (p : Point) → Reached test k p → k ≡ total p.received
turns_are test _ _ opened = sym (total_none test.threads)
turns_are test _ _ (turn {k = k} {p = p} t x r lt is) =
    let there = lists_count test k p r in
    let before = turns_are test k p r in
    let more = total_more p.received t (value_for p.words x) (omega (arith, lt, there)) in omega (arith, before, more)

pub turns_few : (test : Litmus) (k : ℕ) (p : Point) → Reached test k p → k ≤ test.threads * length test.cells
turns_few test k p r =
    let is = turns_are test k p r in
    let there = lists_count test k p r in
    let few = total_few p.received (length test.cells) (λ t. let le = are_few test k p r t in omega (arith, le)) in
    subst (λ (n : ℕ). k ≤ n * length test.cells) there (omega (arith, is, few))
