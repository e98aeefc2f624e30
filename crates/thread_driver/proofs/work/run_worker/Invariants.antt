use Rattle.std.proofs.Common.{◌≡◌, false}
use Rattle.thread_driver.proofs.Working.{AreIdle, Working}
use Rattle.thread_driver.proofs.work.run_worker.Given as goal

abbrev pub invariant-loop : goal.invariant-loop
invariant-loop g l =
    Working g.P.Program.acts l.machine l.signals l.rota l.counter l.cores_had l.banks_had l.fn.worker l.worker
    × (l.worker.told.has_progressed ≡ false → AreIdle l.idle l.counter)
