-- What programs do, seen as values, and the programs of a machine's cores, one a core.
use Rattle.std.specs.Prelude.{ℕ, List, [], ◌∷◌, Option, Some, None, slice_get, slice_set}
use Rattle.physiological_order.specs.declared.operation.Op.{Op}
use Rattle.programs.specs.declared.steps.Step.{Step}
use Rattle.programs.specs.declared.steps.Step.TheVariants as step

pub record Acts (P : Type 0) : Type 0 where
  -- the step that a program does next; none if it has ended
  pub next : P → Option Step
  -- the program once its next step is done, with the value that it received
  pub done : P → Option ℕ → P

-- an operation as a step
abbrev pub as_step : Option Op → Option Step
as_step None = None
as_step (Some op) = Some (step.Op op)

-- a list does its head and goes on with its tail
abbrev pub first_op : List Op → Option Step
first_op [] = None
first_op (op ∷ ops) = Some (step.Op op)

abbrev pub first_step : List Step → Option Step
first_step [] = None
first_step (s ∷ steps) = Some s

abbrev pub behind_first : {X : Type 0} → List X → Option ℕ → List X
behind_first [] received = []
behind_first (x ∷ xs) received = xs

-- the next step of a core's program
abbrev pub next_of : {P : Type 0} → Acts P → Option P → Option Step
next_of acts None = None
next_of acts (Some program) = acts.next program

abbrev pub next_in : {P : Type 0} → Acts P → List P → ℕ → Option Step
next_in acts programs core = next_of acts (slice_get programs core)

-- the programs once that of a core has done its next step
abbrev pub done_of : {P : Type 0} → Acts P → List P → ℕ → Option ℕ → Option P → List P
done_of acts programs core received None = programs
done_of acts programs core received (Some program) = slice_set programs core (acts.done program received)

abbrev pub done_in : {P : Type 0} → Acts P → List P → ℕ → Option ℕ → List P
done_in acts programs core received = done_of acts programs core received (slice_get programs core)
