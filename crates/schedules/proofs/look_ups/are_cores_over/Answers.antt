use Rattle.std.proofs.Common.{sym, arith}
use Rattle.schedules.proofs.ReadyCores.{one_unfinished}
use Rattle.schedules.proofs.look_ups.are_cores_over.Goals as goal

pub returns-then-unfinished_cores-cores : goal.returns-then-unfinished_cores-cores
returns-then-unfinished_cores-cores g c =
    let a = c.args in
    let cores = c.cores-cores.ensures in
    sym (one_unfinished g.P.Program.acts a.system.now a.programs.now c.unfinished_cores.result
    (rw c.unfinished_cores.ensures c.requires) a.system.now.config.cores (omega arith)
    (omega (arith, cores.cores, cores.most)) (omega (arith, cores.cores, c.if-unfinished_cores-cores.true)))
