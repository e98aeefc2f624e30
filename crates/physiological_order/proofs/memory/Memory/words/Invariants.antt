use Rattle.std.proofs.Common.{◌≡◌, take}
use Rattle.physiological_order.proofs.memory.Memory.words.Given as goal

abbrev pub invariant-loop-entry : goal.invariant-loop-entry
invariant-loop-entry l = l.words.items ≡ take l.entry-index l.entry-items
