use Rattle.machine_table.specs.declared.event.Event.TheVariants.{Deliver}
use Rattle.interleaving_core.proofs.Coherence.{step_keeps}
use Rattle.interleaving_core.proofs.system.System.step_delivery.Goals as goal

pub invariant_of-self : goal.invariant_of-self
invariant_of-self g c = step_keeps _ (Deliver c.args.number) _ _ c.self.invariant c.step_delivery-plain.ensures.stepped
