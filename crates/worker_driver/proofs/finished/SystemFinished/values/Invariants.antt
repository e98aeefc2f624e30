use Rattle.std.proofs.Common.{◌≡◌, map, take}
use Rattle.machine_theorem.specs.Coherence.{coherent}
use Rattle.worker_driver.proofs.finished.SystemFinished.values.Given as goal

abbrev pub invariant-loop-addr : goal.invariant-loop-addr
invariant-loop-addr l = l.values.items ≡ map (coherent l.self) (take l.addr-index l.words)
