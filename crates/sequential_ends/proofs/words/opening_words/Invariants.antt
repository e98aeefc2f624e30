use Rattle.std.proofs.Common.{◌≡◌, length}
use Rattle.sequential_machine.specs.Turns.{words_set}
use Rattle.sequential_ends.proofs.WordLists.{set_over}
use Rattle.sequential_ends.proofs.words.opening_words.Given as goal

abbrev pub invariant-loop-entry : goal.invariant-loop-entry
invariant-loop-entry l = set_over l.entries.items l.words.items ≡ words_set l.initial.entries.items

abbrev pub decreases-loop-entry : goal.decreases-loop-entry
decreases-loop-entry l = length l.entries.items
