use Rattle.std.proofs.Common.{sym, subst}
use Rattle.physiological_order.proofs.WordBound.{Bounded, Bounded-empty}
use Rattle.physiological_order.proofs.memory.Memory.new.Goals as goal

pub invariant_of-result : goal.invariant_of-result
invariant_of-result c = subst Bounded (sym c.new.ensures) Bounded-empty
