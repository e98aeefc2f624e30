use Rattle.trace_reader.proofs.ByCore.{ops-op}
use Rattle.trace_reader.proofs.traces.Lane.push_op.Goals as goal

pub invariant_of-self-2 : goal.invariant_of-self-2
invariant_of-self-2 c = cc (ops-op c.self.inside.steps.items c.args.op.now)
