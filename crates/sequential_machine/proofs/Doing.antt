-- A thread's operations by recursion: as a program of steps it never advances.
use Rattle.std.proofs.Common.{◌≡◌, List, [], ◌∷◌, Option, Some, None, refl}
use Rattle.physiological_order.specs.declared.operation.Op.{Op}
use Rattle.physiological_order.specs.declared.operation.Record.{Record}
use Rattle.litmus_reader.specs.ThreadSteps.{Thread, next_operation, done_with}
use Rattle.programs.specs.declared.steps.Step.TheVariants as step
use Rattle.programs.specs.Acts.{as_step}
use Rattle.programs.specs.Performs.{Performs, rests, advances, does as performs}
use Rattle.sequential_machine.specs.Performed.{thread_acts}

-- a thread gave these operations, one after the other, and was told what each received
abbrev pub Does : Thread → List Record → Thread → Type 0
Does t [] end = end ≡ t
Does t (r ∷ rs) end = (next_operation t ≡ Some r.op) × Does (done_with t r.received) rs end

operation : (o : Option Op) (op : Op) → as_step o ≡ Some (step.Op op) → o ≡ Some op
operation None op is = absurd cc
operation (Some other) op is = cc

never_advances : (o : Option Op) → as_step o ≡ Some step.Advance → ⊥
never_advances None is = cc
never_advances (Some op) is = cc

pub does : (t : Thread) (rs : List Record) (last : Thread) → Performs thread_acts rs t last → Does t rs last
does t rs last rests = refl
does t rs last (advances waiting more) = absurd (never_advances (next_operation t) waiting)
does t rs last (performs {r = r} {rs = left} next more) =
    (operation (next_operation t) r.op next, does (done_with t r.received) left last more)
