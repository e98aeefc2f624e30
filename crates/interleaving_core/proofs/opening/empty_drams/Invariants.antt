use Rattle.std.proofs.Common.{◌≡◌, replicate}
use Rattle.std.specs.FinMap.{empty}
use Rattle.interleaving_core.proofs.opening.empty_drams.Given as goal

abbrev pub invariant-loop : goal.invariant-loop
invariant-loop l = l.drams.items ≡ replicate l.counter empty
