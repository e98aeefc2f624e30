use Rattle.std.proofs.Common.{◌≡◌, ◌-◌, ◌∷◌, [], ℕ, List, length, refl, ap, sym, ◌∙◌, arith}
use Rattle.std.specs.Prelude.{None}
use Rattle.programs.specs.Acts.{behind_first}
use Rattle.programs.specs.declared.steps.Step.{Step}
use Rattle.trace_reader.specs.WaitingSteps.{waiting}
use Rattle.trace_reader.proofs.queues.StepQueueProgram.done.Goals as goal

one-less : (steps : List Step) → length steps - 1 ≡ length (behind_first steps None)
one-less [] = refl
one-less (s ∷ steps) = omega arith

pub invariant_of-self : goal.invariant_of-self
invariant_of-self c = (
  ap (λ (left : ℕ). left - 1) c.self.invariant.0 ∙ one-less (waiting c.self.inside.blocks)
      ∙ ap (λ (steps : List Step). length steps) (sym (c.take_first_step.ensures.waiting None)),
  c.take_first_step.ensures.turned,
)
