-- Steps in the order of a text, and the same by core.
use Rattle.std.specs.Prelude.{◌≡◌, ℕ, suc, ◌==◌, max, if◌then◌else◌, Bool, true, false, List, [], ◌∷◌, length, map}
use Rattle.std.specs.Prelude.{get_or, slice_index_or}
use Rattle.std.specs.FinMap.{FinMap, insert}
use Rattle.std.specs.Ordering.{nat_cmp}
use Rattle.physiological_order.specs.declared.operation.Op.{Op}
use Rattle.physiological_order.specs.Order.{address}
use Rattle.programs.specs.declared.steps.Step.{Step}
use Rattle.programs.specs.declared.steps.Step.TheVariants as step

-- the greatest core plus 1; 0 without steps
abbrev pub cores_of : List (ℕ × Step) → ℕ
cores_of [] = 0
cores_of (told ∷ later) = max (suc told.0) (cores_of later)

-- the steps of a core, in order
abbrev pub steps_of : ℕ → List (ℕ × Step) → List Step
steps_of core [] = []
steps_of core (told ∷ later) = if told.0 == core then told.1 ∷ steps_of core later else steps_of core later

-- the steps of a core out of those of each core; none of a core that isn't there
abbrev pub lane : List (List Step) → ℕ → List Step
lane lanes core = get_or lanes core []

-- the steps of each core, up to the greatest one
abbrev pub IsByCore : List (ℕ × Step) → List (List Step) → Type 0
IsByCore told lanes = (length lanes ≡ cores_of told) × ((core : ℕ) → lane lanes core ≡ steps_of core told)

-- the operations among steps, in order
unfoldable pub ops_of : List Step → List Op
ops_of [] = []
ops_of (step.Op op ∷ steps) = op ∷ ops_of steps
ops_of (step.Advance ∷ steps) = ops_of steps

-- a machine that runs a trace has a core for each of the trace, and one if no line has a step
abbrev pub trace_cores : List (List Step) → ℕ
trace_cores lanes = max 1 (length lanes)

-- the operations of each core of a trace; a core that it hasn't has none
abbrev pub trace_ops : List (List Step) → ℕ → List Op
trace_ops lanes core = slice_index_or (map ops_of lanes) core []

-- the words that operations name, and those that are there: a map, whose entries rise by word
abbrev pub with_words : FinMap nat_cmp ℕ → List Op → FinMap nat_cmp ℕ
with_words words [] = words
with_words words (op ∷ ops) = with_words (insert words (address op) 0) ops

-- the words that steps name, if they are asked for, and those that are there
abbrev pub named : Bool → FinMap nat_cmp ℕ → List (ℕ × Step) → FinMap nat_cmp ℕ
named true words steps = with_words words (ops_of (map (λ one. one.1) steps))
named false words steps = words
