-- Steps of one thread: its instructions without memory, up to its next memory instruction, and a memory instruction.
use Rattle.std.proofs.Common.{◌≡◌, ℕ, eqb, List, [], ◌∷◌, Option, Some, None, refl, sym, ◌∙◌, arith}
use Rattle.std.proofs.lemmas.Bool.{cond_both, eqb-true, eq-eqb}
use Rattle.std.proofs.lemmas.Bool.Decides.{nat_tests}
use Rattle.std.proofs.lemmas.Grind.{common_steps}
use Rattle.std.specs.Option.{option_map_or}
use Rattle.physiological_order.specs.declared.operation.Op.{Op}
use Rattle.physiological_order.specs.declared.operation.Op.TheVariants as op
use Rattle.physiological_order.specs.Order.{Memory, flat_received, flat_after}
use Rattle.litmus_parser.specs.declared.syntax.Cell.{Cell}
use Rattle.litmus_parser.specs.declared.syntax.Instruction.{Instruction}
use Rattle.litmus_parser.specs.declared.syntax.Instruction.TheVariants as does
use Rattle.litmus_reader.specs.ThreadSteps.{Thread, register_value, after_local, settled_thread, instruction_operation}
use Rattle.litmus_reader.specs.ThreadSteps.{next_operation, received_by, behind_first_cell, done_with}
use Rattle.sequential_machine.specs.Threads.{Ready, ThreadIsAt, Goes}
use Rattle.sequential_machine.specs.SequentialMachine.{SequentialState, cells_of, memory_after, registers_after}
use Rattle.sequential_machine.specs.SequentialMachine.{after_one, next, Steps, none, more}
use Rattle.sequential_machine.proofs.Tables.{here}
use Rattle.sequential_machine.proofs.Points.{same_some}

pub joined : (s u v : SequentialState) → Steps s u → Steps u v → Steps s v
joined s u v a none = a
joined s u v a (more {u = w} b c) = more (joined s u w a b) c

-- a step in front
behind_one : (s : SequentialState) (t : ℕ) (cell : Cell) (rest : List Cell) (m : Memory) (q : Thread) → s.left t
    ≡ cell ∷ rest →
    Goes (after_one s t cell.instruction rest) t m q → Goes s t m q
behind_one s t cell rest m q l g =
    let q0 = joined s (after_one s t cell.instruction rest) g.end (more none (next t cell rest l)) g.steps in
    grind (arith, nat_tests, q0)

-- from any state with these instructions left, the thread goes on to its next memory instruction
abbrev Settles : ℕ → List Cell → Type 0
Settles t cells =
    (s : SequentialState) → s.left t ≡ cells_of t cells → Goes s t s.memory (settled_thread t (s.registers t) cells)

-- an instruction is done, and then those behind it
goes-behind : (s : SequentialState) (t : ℕ) (cell : Cell) (rest : List Cell) → s.left t ≡ cell ∷ cells_of t
    rest → Settles t rest →
    Goes s t (memory_after cell.instruction (s.registers t) s.memory)
    (settled_thread t (registers_after cell.instruction (s.registers t) s.memory) rest)
goes-behind s t cell rest l go =
    let new = after_one s t cell.instruction (cells_of t rest) in
    let registers = registers_after cell.instruction (s.registers t) s.memory in
    behind_one s t cell (cells_of t rest) new.memory (settled_thread t registers rest) l
    (rw (here s.registers t registers) at (go new (here s.left t (cells_of t rest))))

-- what an instruction without memory leaves
pub local : (i : Instruction) (old new : List ℕ) (m : Memory) → after_local i old ≡ Some new →
    (registers_after i old m ≡ new) × (memory_after i old m ≡ m)
local (does.Set target value) old new m e = (cc, refl)
local does.Fence old new m e = (cc, refl)
local _ old new m e = absurd cc

pub first_of : (t : ℕ) (cell : Cell) (rest : List Cell) → cell.thread ≡ t →
    cells_of t (cell ∷ rest) ≡ cell ∷ cells_of t rest
first_of t cell rest is = rw (eq-eqb cell.thread t is) refl

-- the first instruction is the thread's own
own : (s : SequentialState) (t : ℕ) (cell : Cell) (rest : List Cell) → cell.thread ≡ t → s.left t ≡ cell ∷ cells_of t
    rest → Settles t rest →
    (after : Option (List ℕ)) → after_local cell.instruction (s.registers t) ≡ after →
    Goes s t s.memory (option_map_or (λ registers. settled_thread t registers rest) after
    (record { thread = t; registers = s.registers t; rest = cell ∷ rest }))
own s t cell rest is l go None e =
    record {
      end = s;
      steps = none;
      memory = refl;
      others = λ u ne. (refl, refl);
      stands = record { thread = refl; registers = refl; left = l ∙ sym (first_of t cell rest is); ready = (is, e) };
    }
own s t cell rest is l go (Some registers) e =
    let after = local cell.instruction (s.registers t) registers s.memory e in
    rw (after.0, after.1) at (goes-behind s t cell rest l go)

pub settles : (t : ℕ) (cells : List Cell) → Settles t cells
unfolding settled_thread
settles t [] s l = record {
  end = s;
  steps = none;
  memory = refl;
  others = λ u ne. (refl, refl);
  stands = record { thread = refl; registers = refl; left = l; ready = tt };
}
settles t (cell ∷ rest) s l =
    let stop : Thread = record { thread = t; registers = s.registers t; rest = cell ∷ rest } in
    cond_both (eqb cell.thread t) (option_map_or (λ registers. settled_thread t registers rest)
    (after_local cell.instruction (s.registers t)) stop) (settled_thread t (s.registers t) rest) (Goes s t s.memory)
    (λ e. own s t cell rest (eqb-true cell.thread t e) (l ∙ first_of t cell rest (eqb-true cell.thread t e))
    (settles t rest) (after_local cell.instruction (s.registers t)) refl)
    (λ e. settles t rest s (l ∙ rw e refl))

-- what a memory instruction leaves
pub on_memory : (i : Instruction) (rs : List ℕ) (x : Op) (m : Memory) → instruction_operation i rs ≡ Some x →
    (registers_after i rs m ≡ received_by i (flat_received m x) rs) × (memory_after i rs m ≡ flat_after m x)
on_memory (does.Load target location) rs x m e =
    rw (← same_some (op.Load location) x e) (refl, refl)
on_memory (does.Store source location) rs x m e =
    rw (← same_some (op.Store location (register_value rs source)) x e) (refl, refl)
on_memory (does.Swap target source location) rs x m e =
    rw (← same_some (op.Swap location (register_value rs source)) x e) (refl, refl)
on_memory (does.Set target value) rs x m e = absurd cc
on_memory does.Fence rs x m e = absurd cc

first_performed : (s : SequentialState) (t : ℕ) (rs : List ℕ) (cells : List Cell) (x : Op) (received : Option ℕ) →
    s.registers t ≡ rs → s.left t ≡ cells_of t cells → Ready t rs cells →
    next_operation (record { thread = t; registers = rs; rest = cells }) ≡ Some x →
    flat_received s.memory x ≡ received → Goes s t (flat_after s.memory x) (behind_first_cell t rs received cells)
first_performed s t rs [] x received r l ready e v = absurd cc
first_performed s t rs (cell ∷ rest) x received r l ready e v =
    grind (arith, nat_tests, common_steps, first_of, goes-behind, on_memory, settles)

-- a thread's next operation is performed, and it receives what the memory gives
pub performs : (s : SequentialState) (t : ℕ) (q : Thread) (x : Op) (received : Option ℕ) → ThreadIsAt s t q →
    next_operation q ≡ Some x →
    flat_received s.memory x ≡ received →
    Goes s t (flat_after s.memory x) (done_with q received)
performs s t q x received is e v =
    rw is.thread (first_performed s t q.registers q.rest x received is.registers is.left is.ready e v)

never_both : (i : Instruction) (rs : List ℕ) → instruction_operation i rs ≡ None → after_local i rs ≡ None → ⊥
never_both (does.Load target location) rs e f = absurd cc
never_both _ rs e f = absurd cc

none_in : (t : ℕ) (rs : List ℕ) (cells : List Cell) → Ready t rs cells →
    next_operation (record { thread = t; registers = rs; rest = cells }) ≡ None → cells_of t cells ≡ []
none_in t rs [] ready e = refl
none_in t rs (cell ∷ rest) ready e = absurd (never_both cell.instruction rs e ready.1)

-- where a thread has no next operation, it has no instruction left
pub none_left : (s : SequentialState) (t : ℕ) (q : Thread) → ThreadIsAt s t q → next_operation q ≡ None → s.left t ≡ []
none_left s t q at e = at.left ∙ none_in t q.registers q.rest at.ready e
