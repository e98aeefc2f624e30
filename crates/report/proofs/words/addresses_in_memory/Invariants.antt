use Rattle.std.proofs.Common.{◌≡◌, map, take}
use Rattle.report.proofs.words.addresses_in_memory.Given as goal

abbrev pub invariant-loop-entry : goal.invariant-loop-entry
invariant-loop-entry l = l.named.items ≡ map (λ entry. entry.0) (take l.entry-index l.entry-items)
