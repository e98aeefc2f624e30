use Rattle.std.proofs.Common.{sym, subst, arith}
use Rattle.physiological_order.proofs.WordBound.{Bounded, Bounded-insert}
use Rattle.physiological_order.proofs.memory.Memory.set.Goals as goal

pub invariant_of-self : goal.invariant_of-self
invariant_of-self c = subst Bounded (sym c.in_err-insert.ensures.refused) c.self.invariant

pub invariant_of-self-2 : goal.invariant_of-self-2
invariant_of-self-2 c = subst Bounded (sym c.in_ok-insert.ensures.inserted) (Bounded-insert c.self.inside.words
    c.word.result c.args.value c.self.invariant (omega (arith, c.word.ensures.bound, c.word.ensures.number)))
