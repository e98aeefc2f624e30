-- A step in two numbers.
use Rattle.std.specs.Prelude.{ℕ, zero, suc, ◌%◌, ◌/◌}
use Rattle.physiological_order.specs.declared.operation.Op.TheVariants as op
use Rattle.programs.specs.declared.steps.Step.{Step}
use Rattle.programs.specs.declared.steps.Step.TheVariants as step

-- the step of this kind: a load, a store, a swap or an advance
abbrev pub step_of_kind : ℕ → ℕ → ℕ → Step
step_of_kind zero word value = step.Op (op.Load word)
step_of_kind (suc zero) word value = step.Op (op.Store word value)
step_of_kind (suc (suc zero)) word value = step.Op (op.Swap word value)
step_of_kind kind word value = step.Advance

-- a code is eight times the number of the word and that of the kind
abbrev pub unpacked : ℕ → ℕ → Step
unpacked code value = step_of_kind (code % 8) (code / 8) value
