use Rattle.std.proofs.Common.{◌≡◌, length}
use Rattle.std.specs.FinMap.{entries}
use Rattle.interleaving_core.proofs.DramWords.{filled, no_words}
use Rattle.interleaving_core.proofs.opening.fill_drams.Given as goal

-- the words that are left make of these DRAMs what all words make of empty ones
abbrev pub invariant-loop-word : goal.invariant-loop-word
invariant-loop-word l = (filled l.fn.config l.words.items l.drams.items ≡ filled l.fn.config (entries l.fn.memory)
    (no_words l.fn.config)) × (length l.drams.items ≡ l.fn.config.banks)

abbrev pub decreases-loop-word : goal.decreases-loop-word
decreases-loop-word l = length l.words.items
