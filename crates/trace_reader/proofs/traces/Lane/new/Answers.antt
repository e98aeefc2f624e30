use Rattle.trace_reader.proofs.ByCore.{ops-none}
use Rattle.trace_reader.proofs.traces.Lane.new.Goals as goal

pub invariant_of-result : goal.invariant_of-result
invariant_of-result c = cc ops-none
