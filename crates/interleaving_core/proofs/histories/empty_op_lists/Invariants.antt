use Rattle.std.proofs.Common.{◌≡◌, [], replicate}
use Rattle.interleaving_core.proofs.histories.empty_op_lists.Given as goal

abbrev pub invariant-loop : goal.invariant-loop
invariant-loop l = l.issued.items ≡ replicate l.counter []
