use Rattle.trace_reader.proofs.ByCore.{ops-advance}
use Rattle.trace_reader.proofs.traces.Lane.push_advance.Goals as goal

pub invariant_of-self-2 : goal.invariant_of-self-2
invariant_of-self-2 c = cc (ops-advance c.self.inside.steps.items)
