-- The plain sequential machine of a litmus test: one memory, and for each thread its registers and the instructions
-- that it has left. It has no time and no cache.
use Rattle.std.specs.Prelude.{◌≡◌, ℕ, ◌<◌, ◌==◌, List, [], ◌∷◌, map, filter, replicate, if◌then◌else◌}
use Rattle.std.specs.FinMap.{empty}
use Rattle.physiological_order.specs.Order.{Memory, flat, with_word}
use Rattle.litmus_parser.specs.declared.syntax.Name.{Name}
use Rattle.litmus_parser.specs.declared.syntax.Name.TheVariants.{Register, Location}
use Rattle.litmus_parser.specs.declared.syntax.Cell.{Cell}
use Rattle.litmus_parser.specs.declared.syntax.Instruction.{Instruction}
use Rattle.litmus_parser.specs.declared.syntax.Instruction.TheVariants as does
use Rattle.litmus_reader.specs.Litmus.{Litmus}
use Rattle.litmus_reader.specs.OpeningMemory.{words_opened}
use Rattle.litmus_reader.specs.ThreadSteps.{register_value, with_register, with_items}

pub record SequentialState : Type 0 where
  pub memory : Memory
  -- by thread
  pub registers : ℕ → List ℕ
  pub left : ℕ → List Cell

-- the instructions of a thread
abbrev pub cells_of : ℕ → List Cell → List Cell
cells_of t cells = filter (λ cell. cell.thread == t) cells

-- the registers that a test opens: each is 0 unless an item sets it
abbrev pub registers_opened : Litmus → ℕ → List ℕ
registers_opened test t = with_items t test.items (replicate 32 0)

abbrev pub memory_opened : Litmus → Memory
memory_opened test = flat (words_opened test.items empty)

abbrev pub sequential_opening : Litmus → SequentialState
sequential_opening test =
    record { memory = memory_opened test; registers = registers_opened test; left = λ t. cells_of t test.cells }

-- the memory that an instruction leaves, by its thread's registers
abbrev pub memory_after : Instruction → List ℕ → Memory → Memory
memory_after (does.Load target location) registers m = m
memory_after (does.Store source location) registers m = with_word m location (register_value registers source)
memory_after (does.Swap target source location) registers m = with_word m location (register_value registers source)
memory_after (does.Set target value) registers m = m
memory_after does.Fence registers m = m

-- the registers that an instruction leaves its thread, by the memory before it: the target of a swap gets the old word
abbrev pub registers_after : Instruction → List ℕ → Memory → List ℕ
registers_after (does.Load target location) registers m = with_register registers target (m location)
registers_after (does.Store source location) registers m = registers
registers_after (does.Swap target source location) registers m = with_register registers target (m location)
registers_after (does.Set target value) registers m = with_register registers target value
registers_after does.Fence registers m = registers

-- a table changed at one place
abbrev pub with_at : {X : Type 0} → (ℕ → X) → ℕ → X → ℕ → X
with_at table t x u = if u == t then x else table u

-- the machine once a thread has done an instruction, and has the rest left: other threads are as they were
abbrev pub after_one : SequentialState → ℕ → Instruction → List Cell → SequentialState
after_one s t instruction rest =
    record {
      memory = memory_after instruction (s.registers t) s.memory;
      registers = with_at s.registers t (registers_after instruction (s.registers t) s.memory);
      left = with_at s.left t rest;
    }

-- any thread that has instructions left does the first of them
pub data Step : SequentialState → SequentialState → Type 0 where
  next : {s : SequentialState} (t : ℕ) (cell : Cell) (rest : List Cell) → s.left t ≡ cell ∷ rest →
      Step s (after_one s t cell.instruction rest)

-- no step, or steps and one more
pub data Steps : SequentialState → SequentialState → Type 0 where
  none : {s : SequentialState} → Steps s s
  more : {s u v : SequentialState} → Steps s u → Step u v → Steps s v

-- a register's value in its thread, or a location's word in memory
abbrev pub value_at : SequentialState → Name → ℕ
value_at s (Register t r) = register_value (s.registers t) r
value_at s (Location l) = s.memory l

-- the values of the test's names, in their order, if steps from the opening leave no thread an instruction
pub record IsOutcome (test : Litmus) (values : List ℕ) : Type 0 where
  pub last : SequentialState
  pub steps : Steps (sequential_opening test) last
  pub finished : (t : ℕ) → t < test.threads → last.left t ≡ []
  pub values_are : values ≡ map (value_at last) test.seen
