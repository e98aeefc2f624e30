-- Turns are steps of the machine, and its steps are turns.
use Rattle.std.proofs.Common.{◌≡◌, ℕ, zero, suc, ◌<◌, ◌≤◌, true, List, [], ◌∷◌, ◌++◌, length}
use Rattle.std.proofs.Common.{map, Option, Some, None, refl, sym, ap, ap₂, ◌∙◌, subst, arith, inl, inr, length-append}
use Rattle.std.proofs.lemmas.Bool.Decides.{nat_tests}
use Rattle.std.proofs.lemmas.Grind.{common_steps}
use Rattle.std.specs.Prelude.{slice_get}
use Rattle.std.specs.Option.{option_map_or}
use Rattle.std.specs.List.{list_all}
use Rattle.std.proofs.lemmas.Bool.{cases_eq, cases_lt, eq-eqb, ne_eqb, and_parts, ltb-true}
use Rattle.physiological_order.specs.declared.operation.Op.{Op}
use Rattle.physiological_order.specs.Order.{Memory, flat_after, flat_received}
use Rattle.litmus_parser.specs.declared.syntax.Name.{Name}
use Rattle.litmus_parser.specs.declared.syntax.Name.TheVariants.{Register, Location}
use Rattle.litmus_parser.specs.declared.syntax.Cell.{Cell}
use Rattle.litmus_parser.specs.declared.syntax.Instruction.{Instruction}
use Rattle.litmus_parser.specs.declared.syntax.Instruction.TheVariants as does
use Rattle.litmus_reader.specs.Litmus.{Litmus}
use Rattle.litmus_reader.specs.WellFormed.{is_of_thread, is_there, IsWellFormed}
use Rattle.litmus_reader.specs.Truth.{end_value}
use Rattle.litmus_reader.specs.ThreadSteps.{Thread, after_local, settled_thread, instruction_operation}
use Rattle.litmus_reader.specs.ThreadSteps.{next_operation, received_by, behind_first_cell, done_with}
use Rattle.sequential_machine.specs.SequentialMachine.{SequentialState, cells_of, registers_opened}
use Rattle.sequential_machine.specs.SequentialMachine.{sequential_opening, memory_after, registers_after, after_one}
use Rattle.sequential_machine.specs.SequentialMachine.{Step, next, Steps, none, more, value_at, IsOutcome}
use Rattle.sequential_machine.specs.Threads.{Ready, ThreadIsAt}
use Rattle.sequential_machine.specs.Turns.{Point, word_in, thread_at, operation_at, turned}
use Rattle.sequential_machine.specs.Turns.{point_opened, Reached, opened, turn, threads_at, values_at, IsEnd}
use Rattle.sequential_machine.proofs.Tables.{here, elsewhere}
use Rattle.sequential_machine.proofs.ThreadSteps.{joined, performs, none_left, local, first_of, on_memory}
use Rattle.sequential_machine.proofs.Runs.{Runs, still, opens}
use Rattle.sequential_machine.proofs.Outcomes.{same_values}
use Rattle.sequential_machine.proofs.Points.{memory_set, memory_opens, nothing_received, lists_count, turned_here}
use Rattle.sequential_machine.proofs.Points.{turned_elsewhere}

-- ---- values

threads_length : (test : Litmus) (p : Point) (n : ℕ) → length (threads_at test p n) ≡ n
threads_length test p zero = refl
threads_length test p (suc n) =
    let e = threads_length test p n in
    length-append (threads_at test p n) (thread_at test p n ∷ []) ∙ omega (arith, e)

get_behind : {X : Type 0} (xs : List X) (x : X) (i : ℕ) → i ≡ length xs → slice_get (xs ++ x ∷ []) i ≡ Some x
get_behind [] x zero e = refl
get_behind [] x (suc i) e = absurd (omega (arith, e))
get_behind (y ∷ xs) x zero e = absurd (omega (arith, e))
get_behind (y ∷ xs) x (suc i) e = get_behind xs x i (omega (arith, e))

get_before : {X : Type 0} (xs : List X) (x : X) (i : ℕ) → i < length xs → slice_get (xs ++ x ∷ []) i ≡ slice_get xs i
get_before [] x i lt = absurd (omega (arith, lt))
get_before (y ∷ xs) x zero lt = refl
get_before (y ∷ xs) x (suc i) lt = get_before xs x i (omega (arith, lt))

thread_there : (test : Litmus) (p : Point) (n t : ℕ) → t < n →
    slice_get (threads_at test p n) t ≡ Some (thread_at test p t)
thread_there test p zero t lt = absurd (omega (arith, lt))
thread_there test p (suc n) t lt =
    let len = threads_length test p n in
    elim (cases_eq t n) [
      | inl e ↦
          get_behind (threads_at test p n) (thread_at test p n) t (e ∙ sym len)
          ∙ ap (λ (k : ℕ). Some (thread_at test p k)) (sym e)
      | inr ne ↦
          get_before (threads_at test p n) (thread_at test p n) t (omega (arith, lt, ne, len))
          ∙ thread_there test p n t (omega (arith, lt, ne))
    ]

-- where registers and memory are the same, so are the values
module _ (test : Litmus) (p : Point) (s : SequentialState) (memory : s.memory ≡ word_in p.words)
    (registers : (t : ℕ) → t < test.threads → s.registers t ≡ (thread_at test p t).registers) where
  one_value : (name : Name) → is_there test.threads (length test.locations) name ≡ true →
      end_value (threads_at test p test.threads) p.words name ≡ value_at s name
  one_value (Register t r) is =
      let lt = ltb-true t test.threads is in
      let q0 = thread_there test p test.threads t lt in grind (arith, nat_tests, q0, lt)
  one_value (Location l) is = sym (ap (λ (m : Memory). m l) memory)

  same_at_end : IsWellFormed test → values_at test p ≡ map (value_at s) test.seen
  same_at_end is =
      same_values (end_value (threads_at test p test.threads) p.words) (value_at s)
      (is_there test.threads (length test.locations)) one_value test.seen is.names_there

-- ---- turns are steps

Stands : (test : Litmus) (p : Point) → Type 0
Stands test p = Runs test.threads (sequential_opening test) (word_in p.words) (thread_at test p)

turns_stand : (test : Litmus) (k : ℕ) (p : Point) → Reached test k p → Stands test p
unfolding Stands
turns_stand test _ _ opened =
    let o = (opens test test.threads).runs in
    record {
      end = o.end;
      steps = o.steps;
      memory = o.memory ∙ sym (memory_opens test);
      stand = λ t lt. rw (nothing_received test.threads t) (o.stand t lt);
    }
turns_stand test _ _ (turn {k = k} {p = p} t x r lt is) =
    let o = turns_stand test k p r in
    let g = performs o.end t (thread_at test p t) x (flat_received o.end.memory x) (o.stand t lt) is refl in
    let there = lists_count test k p r in
    record {
      end = g.end;
      steps = joined (sequential_opening test) o.end g.end o.steps g.steps;
      memory = g.memory ∙ ap (λ (m : Memory). flat_after m x) o.memory ∙ sym (memory_set p.words x);
      stand = λ u below. elim (cases_eq u t) [
        | inl e ↦
            rw (e, turned_here test p t x (omega (arith, lt, there)) is)
            (subst (ThreadIsAt g.end t) (ap (λ m. done_with (thread_at test p t) (flat_received m x)) o.memory)
            g.stands)
        | inr ne ↦
            rw (turned_elsewhere test p t x u ne)
            (still o.end g.end u (thread_at test p u) (g.others u ne) (o.stand u below))
      ];
    }

pub end_outcome : (test : Litmus) (values : List ℕ) → IsWellFormed test → IsEnd test values → IsOutcome test values
unfolding Stands
end_outcome test values is e =
    let o = turns_stand test e.turns e.point e.reached in
    record {
      last = o.end;
      steps = o.steps;
      finished = λ t lt. none_left o.end t (thread_at test e.point t) (o.stand t lt) (e.finished t lt);
      values_are = e.values_are ∙ same_at_end test e.point o.end o.memory (λ t lt. (o.stand t lt).registers) is;
    }

-- ---- steps are turns

-- a thread's instructions without memory are done, up to its next memory instruction
settle : List Cell → List ℕ → List ℕ × List Cell
settle [] rs = (rs, [])
settle (c ∷ cells) rs = option_map_or (settle cells) (after_local c.instruction rs) (rs, c ∷ cells)

settle_local : (c : Cell) (left : List Cell) (rs ns : List ℕ) → after_local c.instruction rs ≡ Some ns →
    settle (c ∷ left) rs ≡ settle left ns
unfolding settle
settle_local c left rs ns e = ap (λ (o : Option (List ℕ)). option_map_or (settle left) o (rs, c ∷ left)) e

settle_memory : (c : Cell) (left : List Cell) (rs : List ℕ) → after_local c.instruction rs ≡ None →
    settle (c ∷ left) rs ≡ (rs, c ∷ left)
unfolding settle
settle_memory c left rs e = ap (λ (o : Option (List ℕ)). option_map_or (settle left) o (rs, c ∷ left)) e

-- so it comes to where this thread stands
record SettlesTo (t : ℕ) (rs : List ℕ) (left : List Cell) (q : Thread) : Type 0 where
  thread : q.thread ≡ t
  comes : settle left rs ≡ (q.registers, cells_of t q.rest)
  ready : Ready t q.registers q.rest

moved : (t : ℕ) (rs ns : List ℕ) (left rest : List Cell) (q r : Thread) → ns ≡ rs → rest ≡ left → r ≡ q →
    SettlesTo t rs left q → SettlesTo t ns rest r
moved t rs ns left rest q r a b c h = rw (a, b, c) h

own_settles : (t : ℕ) (rs : List ℕ) (c : Cell) (cells : List Cell) → c.thread ≡ t →
    ((ns : List ℕ) → SettlesTo t ns (cells_of t cells) (settled_thread t ns cells)) →
    (o : Option (List ℕ)) → after_local c.instruction rs ≡ o →
    SettlesTo t rs (c ∷ cells_of t cells) (option_map_or (λ ns. settled_thread t ns cells) o
    (record { thread = t; registers = rs; rest = c ∷ cells }))
own_settles t rs c cells e further None is = grind (arith, nat_tests, common_steps, first_of, settle_memory)
own_settles t rs c cells e further (Some ns) is = grind (arith, nat_tests, common_steps, settle_local)

settles_to : (t : ℕ) (rs : List ℕ) (cells : List Cell) → SettlesTo t rs (cells_of t cells) (settled_thread t rs cells)
unfolding settled_thread settle
settles_to t rs [] = record { thread = refl; comes = refl; ready = tt }
settles_to t rs (c ∷ cells) = elim (cases_eq c.thread t) [
  | inl e ↦
      rw (eq-eqb c.thread t e)
      (own_settles t rs c cells e (λ ns. settles_to t ns cells) (after_local c.instruction rs) refl)
  | inr ne ↦ rw (ne_eqb c.thread t ne) (settles_to t rs cells)
]

-- a point at which each thread stands where its instructions without memory take it
record Follows (test : Litmus) (s : SequentialState) (p : Point) : Type 0 where
  memory : s.memory ≡ word_in p.words
  threads : (t : ℕ) → t < test.threads → SettlesTo t (s.registers t) (s.left t) (thread_at test p t)
  others : (t : ℕ) → test.threads ≤ t → s.left t ≡ []

record GoesOn (test : Litmus) (s : SequentialState) : Type 0 where
  turns : ℕ
  point : Point
  reached : Reached test turns point
  follows : Follows test s point

-- an instruction without memory changes no point
module _ (test : Litmus) (s : SequentialState) (k : ℕ) (p : Point) (r : Reached test k p) (f : Follows test s p) (t : ℕ)
    (cell : Cell) (rest : List Cell) (l : s.left t ≡ cell ∷ rest) (lt : t < test.threads) where
  abbrev After : SequentialState
  After = after_one s t cell.instruction rest

  left_elsewhere : (u : ℕ) → test.threads ≤ u → After.left u ≡ []
  left_elsewhere u le =
      elsewhere s.left t rest u (λ e. absurd (omega (arith, e, lt, le))) ∙ f.others u le

  without_memory : (ns : List ℕ) → after_local cell.instruction (s.registers t) ≡ Some ns → GoesOn test After
  without_memory ns is =
      grind (arith, nat_tests, common_steps, cases_eq, elsewhere, left_elsewhere, local, moved, settle_local)

has_operation : (i : Instruction) (rs : List ℕ) → after_local i rs ≡ None → (x : Op) ×
    (instruction_operation i rs ≡ Some x)
has_operation (does.Load target location) rs e = (_, refl)
has_operation (does.Store source location) rs e = (_, refl)
has_operation (does.Swap target source location) rs e = (_, refl)
has_operation (does.Set target value) rs e = absurd cc
has_operation does.Fence rs e = absurd cc

-- a thread before a memory instruction
record Waits (t : ℕ) (rs : List ℕ) (cells : List Cell) (cell : Cell) (rest : List Cell) : Type 0 where
  op : Op
  gives : next_operation (record { thread = t; registers = rs; rest = cells }) ≡ Some op
  does_it : instruction_operation cell.instruction rs ≡ Some op
  tail : List Cell
  tail_is : cells_of t tail ≡ rest
  goes : (o : Option ℕ) → behind_first_cell t rs o cells ≡ settled_thread t (received_by cell.instruction o rs) tail

waits : (t : ℕ) (rs : List ℕ) (cells : List Cell) (cell : Cell) (rest : List Cell) → Ready t rs cells →
    cells_of t cells ≡ cell ∷ rest → after_local cell.instruction rs ≡ None → Waits t rs cells cell rest
waits t rs [] cell rest ready e none_local = absurd cc
waits t rs (c ∷ cells) cell rest ready e none_local =
    let both : c ∷ cells_of t cells ≡ cell ∷ rest = sym (first_of t c cells ready.0) ∙ e in
    let first : c ≡ cell = cc in
    let behind : cells_of t cells ≡ rest = cc in
    let x = has_operation cell.instruction rs none_local in
    record {
      op = x.0;
      gives = ap (λ (d : Cell). instruction_operation d.instruction rs) first ∙ x.1;
      does_it = x.1;
      tail = cells;
      tail_is = behind;
      goes = λ o. ap (λ (d : Cell). settled_thread t (received_by d.instruction o rs) cells) first;
    }

same_parts : (x y : List ℕ × List Cell) → x ≡ y → (x.0 ≡ y.0) × (x.1 ≡ y.1)
same_parts x y e = (ap (λ (p : List ℕ × List Cell). p.0) e, ap (λ (p : List ℕ × List Cell). p.1) e)

-- a memory instruction is a turn
module _ (test : Litmus) (s : SequentialState) (k : ℕ) (p : Point) (r : Reached test k p) (f : Follows test s p) (t : ℕ)
    (cell : Cell) (rest : List Cell) (l : s.left t ≡ cell ∷ rest) (lt : t < test.threads)
    (is : after_local cell.instruction (s.registers t) ≡ None) where
  abbrev Now : Thread
  Now = thread_at test p t

  parts : (s.registers t ≡ Now.registers) × (cell ∷ rest ≡ cells_of t Now.rest)
  parts = same_parts (s.registers t, cell ∷ rest) (Now.registers, cells_of t Now.rest)
      (sym (settle_memory cell rest (s.registers t) is)
      ∙ ap (λ (xs : List Cell). settle xs (s.registers t)) (sym l) ∙ (f.threads t lt).comes)

  wait : Waits t Now.registers Now.rest cell rest
  wait = waits t Now.registers Now.rest cell rest (f.threads t lt).ready (sym parts.1)
      (subst (λ (rs : List ℕ). after_local cell.instruction rs ≡ None) parts.0 is)

  gives : operation_at test p t ≡ Some wait.op
  gives = wait.gives

  after : (registers_after cell.instruction (s.registers t) s.memory ≡ received_by cell.instruction
      (flat_received s.memory wait.op) (s.registers t))
      × (memory_after cell.instruction (s.registers t) s.memory ≡ flat_after s.memory wait.op)
  after = on_memory cell.instruction (s.registers t) wait.op s.memory
      (subst (λ (rs : List ℕ). instruction_operation cell.instruction rs ≡ Some wait.op) (sym parts.0) wait.does_it)

  received : Option ℕ
  received = flat_received (word_in p.words) wait.op

  registers_are : registers_after cell.instruction (s.registers t) s.memory
      ≡ received_by cell.instruction received Now.registers
  unfolding received
  registers_are = after.0 ∙ ap₂ (λ (m : Memory) (rs : List ℕ). received_by cell.instruction
      (flat_received m wait.op) rs) f.memory parts.0

  thread_is : thread_at test (turned p t wait.op) t ≡ settled_thread t (received_by cell.instruction received
      Now.registers) wait.tail
  unfolding received
  thread_is = grind (arith, nat_tests, common_steps, gives, lists_count, turned_here, wait)

  with_memory : GoesOn test (after_one s t cell.instruction rest)
  with_memory =
      let u = after_one s t cell.instruction rest in
      let registers = registers_after cell.instruction (s.registers t) s.memory in
      let new = received_by cell.instruction received Now.registers in
      let q = turned p t wait.op in
      record {
        turns = suc k;
        point = q;
        reached = turn t wait.op r lt gives;
        follows = record {
          memory = after.1 ∙ ap (λ (m : Memory). flat_after m wait.op) f.memory ∙ sym (memory_set p.words wait.op);
          threads = λ v below. elim (cases_eq v t) [
            | inl e ↦
                rw e (moved t new (u.registers t) (cells_of t wait.tail) (u.left t) (settled_thread t new wait.tail)
                (thread_at test q t) (here s.registers t registers ∙ registers_are)
                (here s.left t rest ∙ sym wait.tail_is) thread_is (settles_to t new wait.tail))
            | inr ne ↦
                moved v (s.registers v) (u.registers v) (s.left v) (u.left v) (thread_at test p v)
                (thread_at test q v) (elsewhere s.registers t registers v ne) (elsewhere s.left t rest v ne)
                (turned_elsewhere test p t wait.op v ne) (f.threads v below)
          ];
          others = λ v le. elsewhere s.left t rest v (λ e. absurd (omega (arith, e, lt, le))) ∙ f.others v le;
        };
      }

not_both : (cell : Cell) (rest left : List Cell) → left ≡ cell ∷ rest → left ≡ [] → ⊥
not_both cell rest left a b = cc

step_followed : (test : Litmus) (s u : SequentialState) → GoesOn test s → Step s u → GoesOn test u
step_followed test s _ g (next t cell rest l) =
    elim (cases_lt t test.threads) [
      | inl lt ↦ on lt (after_local cell.instruction (s.registers t)) refl
      | inr le ↦ absurd (not_both cell rest (s.left t) l (g.follows.others t le))
    ]
  where
    on : t < test.threads → (o : Option (List ℕ)) → after_local cell.instruction (s.registers t) ≡ o →
        GoesOn test (after_one s t cell.instruction rest)
    on lt None is = with_memory test s g.turns g.point g.reached g.follows t cell rest l lt is
    on lt (Some ns) is = without_memory test s g.turns g.point g.reached g.follows t cell rest l lt ns is

followed : (test : Litmus) (s u : SequentialState) → Steps s u → GoesOn test s → GoesOn test u
followed test s _ none g = g
followed test s u (more {u = v} a b) g = step_followed test v u (followed test s v a g) b

none_of : (n t : ℕ) (cells : List Cell) → list_all (is_of_thread n) cells ≡ true → n ≤ t → cells_of t cells ≡ []
none_of n t [] h le = refl
none_of n t (c ∷ cells) h le =
    let both = and_parts (is_of_thread n c) (list_all (is_of_thread n) cells) h in
    let lt = ltb-true c.thread n both.0 in
    let q0 = none_of n t cells both.1 le in grind (arith, nat_tests, q0, lt)

opening_followed : (test : Litmus) → list_all (is_of_thread test.threads) test.cells ≡ true →
    GoesOn test (sequential_opening test)
opening_followed test below = record {
  turns = 0;
  point = point_opened test;
  reached = opened;
  follows = record {
    memory = sym (memory_opens test);
    threads = λ t lt. rw (nothing_received test.threads t) (settles_to t (registers_opened test t) test.cells);
    others = λ t le. none_of test.threads t test.cells below le;
  };
}

none_next : (t : ℕ) (rs : List ℕ) (cells : List Cell) → Ready t rs cells → cells_of t cells ≡ [] →
    next_operation (record { thread = t; registers = rs; rest = cells }) ≡ None
none_next t rs [] ready e = refl
none_next t rs (c ∷ cells) ready e = absurd (not_both c (cells_of t cells) _ (first_of t c cells ready.0) e)

pub outcome_end : (test : Litmus) (values : List ℕ) → IsWellFormed test → IsOutcome test values → IsEnd test values
unfolding settle
outcome_end test values is o =
    let g = followed test (sequential_opening test) o.last o.steps (opening_followed test is.cells_there) in
    record {
      turns = g.turns;
      point = g.point;
      reached = g.reached;
      finished = λ t lt. none_next t (thread_at test g.point t).registers (thread_at test g.point t).rest
          (g.follows.threads t lt).ready (sym (done g t lt).1);
      values_are = o.values_are
          ∙ sym (same_at_end test g.point o.last g.follows.memory (λ t lt. (done g t lt).0) is);
    }
  where
    done : (g : GoesOn test o.last) (t : ℕ) → t < test.threads →
        (o.last.registers t ≡ (thread_at test g.point t).registers) × ([] ≡ cells_of t (thread_at test g.point t).rest)
    done g t lt = same_parts (o.last.registers t, [])
        ((thread_at test g.point t).registers, cells_of t (thread_at test g.point t).rest)
        (ap (λ (xs : List Cell). settle xs (o.last.registers t)) (sym (o.finished t lt))
        ∙ (g.follows.threads t lt).comes)
