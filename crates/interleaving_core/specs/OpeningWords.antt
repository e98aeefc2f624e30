-- How the words of the opening memory come into DRAM.
use Rattle.std.specs.Prelude.{ℕ, ◌/◌, ◌%◌, List, slice_index_or, slice_set}
use Rattle.std.specs.Ordering.{nat_cmp}
use Rattle.std.specs.FinMap.{FinMap, empty}
use Rattle.machine_table.specs.declared.config.Config.{Config}
use Rattle.machine_table.specs.Opening.{with_word}

-- the DRAMs with one word set, in that of its line's bank
abbrev pub word_set : Config → ℕ × ℕ → List (FinMap nat_cmp (List ℕ)) → List (FinMap nat_cmp (List ℕ))
word_set c word drams =
    let line = word.0 / c.line_words in
    slice_set drams (line % c.banks) (with_word (slice_index_or drams (line % c.banks) empty) line
    (word.0 % c.line_words) word.1)
