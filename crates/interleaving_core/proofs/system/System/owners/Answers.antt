use Rattle.std.proofs.Common.{arith}
use Rattle.machine_theorem.proofs.Lemmas.{consistent}
use Rattle.interleaving_core.proofs.system.System.owners.Goals as goal

pub owners-requires : goal.owners-requires
owners-requires g c = (consistent _ c.self.invariant.1).one_owner c.args.line

pub returns-clause-one : goal.returns-clause-one
returns-clause-one g c =
    let one = (consistent _ c.self.invariant.1).one_owner c.args.line in omega (arith, one, c.owners.ensures)

pub overflow_cast-result : goal.overflow_cast-result
overflow_cast-result g c =
    let one = (consistent _ c.self.invariant.1).one_owner c.args.line in omega (arith, one, c.owners.ensures)
