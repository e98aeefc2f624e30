use Rattle.interleaving_core.proofs.Coherence.{step_keeps}
use Rattle.interleaving_core.proofs.system.System.step_plain.Goals as goal

pub invariant_of-self : goal.invariant_of-self
invariant_of-self g c = step_keeps _ c.args.event _ _ c.self.invariant c.step.ensures.stepped
