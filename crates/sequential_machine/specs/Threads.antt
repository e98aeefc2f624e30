-- Threads of the code, which go from one memory instruction to the next, as threads of the machine.
use Rattle.std.specs.Prelude.{◌≡◌, ◌≢◌, ℕ, List, [], ◌∷◌, None}
use Rattle.physiological_order.specs.Order.{Memory}
use Rattle.litmus_parser.specs.declared.syntax.Cell.{Cell}
use Rattle.litmus_reader.specs.ThreadSteps.{Thread, after_local}
use Rattle.sequential_machine.specs.SequentialMachine.{SequentialState, Steps, cells_of}

-- the first of these is a memory instruction of the thread
abbrev pub Ready : ℕ → List ℕ → List Cell → Type 0
Ready t registers [] = Unit {0}
Ready t registers (cell ∷ rest) = (cell.thread ≡ t) × (after_local cell.instruction registers ≡ None)

-- a thread of the machine that has come to its next memory instruction
pub record ThreadIsAt (s : SequentialState) (t : ℕ) (q : Thread) : Type 0 where
  pub thread : q.thread ≡ t
  pub registers : s.registers t ≡ q.registers
  pub left : s.left t ≡ cells_of t q.rest
  pub ready : Ready t q.registers q.rest

-- steps of one thread that come to this memory and to this thread
pub record Goes (s : SequentialState) (t : ℕ) (m : Memory) (q : Thread) : Type 0 where
  pub end : SequentialState
  pub steps : Steps s end
  pub memory : end.memory ≡ m
  pub others : (u : ℕ) → u ≢ t → (end.registers u ≡ s.registers u) × (end.left u ≡ s.left u)
  pub stands : ThreadIsAt end t q
