use Rattle.std.proofs.Common.{◌≡◌, ◌≤◌, ◌-◌, ℕ, length}
use Rattle.sequential_machine.specs.Turns.{with_word_in}
use Rattle.sequential_ends.proofs.words.extend_words.Given as goal

abbrev pub invariant-loop-words : goal.invariant-loop-words
invariant-loop-words l =
    (length l.words.items ≤ l.count)
    × ((value : ℕ) → with_word_in l.words.items l.count value ≡ with_word_in l.initial.words.items l.count value)

abbrev pub decreases-loop-words : goal.decreases-loop-words
decreases-loop-words l = l.count - length l.words.items
