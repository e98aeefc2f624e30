use Rattle.std.proofs.Common.{subst}
use Rattle.schedules.specs.Paces.{GoesOnIn, Paced}
use Rattle.schedules.proofs.PieceTurns.{first_ends}
use Rattle.schedules.proofs.policies.run_watched.Goals as goal

pub returns-clause-ended : goal.returns-clause-ended
returns-clause-ended g c =
    let a = c.args in
    let n = c.run_on.new in
    let k = c.run_on.ensures.ended in
    let end = c.run_on.result.0 in
    let keeps = g.W.Watcher.watches.asks in
    let acts = g.P.Program.acts in (
      k.0,
      first_ends acts keeps a.policy k.1 a.limit a.system.now n.system a.programs.now n.programs k.0 end
          (subst (λ (pace : Paced). GoesOnIn keeps acts pace k.1 a.limit a.system.now a.programs.now k.0 n.system
          n.programs end) c.new-pace.ensures k.2),
      k.4,
      k.5,
    )
