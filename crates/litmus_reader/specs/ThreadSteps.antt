-- The threads of a litmus test: registers, and the instructions that are left.
use Rattle.std.specs.Prelude.{ℕ, ◌==◌, ◌&&◌, nat_lt, if◌then◌else◌, List, [], ◌∷◌, Option, Some, None, slice_get}
use Rattle.std.specs.Prelude.{slice_set, unwrap_or}
use Rattle.std.specs.Option.{option_and_then, option_map_or}
use Rattle.litmus_parser.specs.declared.syntax.Name.{Name}
use Rattle.litmus_parser.specs.declared.syntax.Name.TheVariants.{Register}
use Rattle.litmus_parser.specs.declared.syntax.Setting.{Setting}
use Rattle.litmus_parser.specs.declared.syntax.Setting.TheVariants.{Number}
use Rattle.litmus_parser.specs.declared.syntax.Cell.{Cell}
use Rattle.litmus_parser.specs.declared.syntax.Instruction.{Instruction}
use Rattle.litmus_parser.specs.declared.syntax.Instruction.TheVariants as does
use Rattle.physiological_order.specs.declared.operation.Op.{Op}
use Rattle.physiological_order.specs.declared.operation.Op.TheVariants as op

pub record Thread : Type 0 where
  pub thread : ℕ
  pub registers : List ℕ
  pub rest : List Cell

-- a register's value
abbrev pub register_value : List ℕ → ℕ → ℕ
register_value registers register = unwrap_or (slice_get registers register) 0

-- writes to x0 are ignored
abbrev pub with_register : List ℕ → ℕ → ℕ → List ℕ
with_register registers register value =
    if nat_lt 0 register && nat_lt register 32 then slice_set registers register value else registers

-- an instruction that the thread does without memory: what its registers are then
abbrev pub after_local : Instruction → List ℕ → Option (List ℕ)
after_local (does.Set target value) registers = Some (with_register registers target value)
after_local does.Fence registers = Some registers
after_local instruction registers = None

-- a thread whose next instruction is a memory instruction, or which has finished
unfoldable pub settled_thread : ℕ → List ℕ → List Cell → Thread
settled_thread thread registers [] = record { thread = thread; registers = registers; rest = [] }
settled_thread thread registers (cell ∷ rest) =
    if cell.thread == thread
    then option_map_or (λ registers. settled_thread thread registers rest) (after_local cell.instruction registers)
    (record { thread = thread; registers = registers; rest = cell ∷ rest })
    else settled_thread thread registers rest

abbrev pub with_item : ℕ → Name → Setting → List ℕ → List ℕ
with_item thread (Register owner register) (Number value) registers =
    if owner == thread then with_register registers register value else registers
with_item thread name setting registers = registers

-- the registers as the items set them
unfoldable pub with_items : ℕ → List (Name × Setting) → List ℕ → List ℕ
with_items thread [] registers = registers
with_items thread (item ∷ items) registers = with_items thread items (with_item thread item.0 item.1 registers)

abbrev pub instruction_operation : Instruction → List ℕ → Option Op
instruction_operation (does.Load target location) registers = Some (op.Load location)
instruction_operation (does.Store source location) registers =
    Some (op.Store location (register_value registers source))
instruction_operation (does.Swap target source location) registers =
    Some (op.Swap location (register_value registers source))
instruction_operation instruction registers = None

-- the operation that a thread does next
abbrev pub next_operation : Thread → Option Op
next_operation t =
    option_and_then (λ cell. instruction_operation cell.instruction t.registers) (slice_get t.rest 0)

-- where a received value goes
abbrev pub received_by : Instruction → Option ℕ → List ℕ → List ℕ
received_by (does.Load target location) (Some value) registers = with_register registers target value
received_by (does.Swap target source location) (Some value) registers = with_register registers target value
received_by instruction received registers = registers

abbrev pub behind_first_cell : ℕ → List ℕ → Option ℕ → List Cell → Thread
behind_first_cell thread registers received [] = record { thread = thread; registers = registers; rest = [] }
behind_first_cell thread registers received (cell ∷ rest) =
    settled_thread thread (received_by cell.instruction received registers) rest

-- a thread whose next operation is done, with the value that it received
abbrev pub done_with : Thread → Option ℕ → Thread
done_with t received = behind_first_cell t.thread t.registers received t.rest
