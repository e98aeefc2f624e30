use Rattle.network.proofs.Powers.{over_power}
use Rattle.network.proofs.division.remainder.Goals as goal

pub returns-then-by-mask-eq0 : goal.returns-then-by-mask-eq0
returns-then-by-mask-eq0 c = over_power c.args.number c.args.by c.requires c.if-by-mask-eq0.true
