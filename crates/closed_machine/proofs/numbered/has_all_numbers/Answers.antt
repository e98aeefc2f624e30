use Rattle.std.proofs.Common.{ℕ, ◌+◌, refl}
use Rattle.closed_machine.specs.Numbers.{Has}
use Rattle.closed_machine.proofs.Places.{one_further}
use Rattle.closed_machine.proofs.numbered.has_all_numbers.Goals as goal

pub loop-j-preserved : goal.loop-j-preserved
loop-j-preserved g c =
    one_further (λ (k : ℕ). Has g.T.Numbered.number c.args.parts.now (c.args.first + k)) c.loop-j.j c.loop-j.invariant
    (c.if-not-has_number.ensures.there refl)
