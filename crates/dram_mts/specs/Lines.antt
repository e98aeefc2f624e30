-- The words of the lines in DRAM.
use Rattle.std.specs.Prelude.{ℕ, List, replicate, unwrap_or}
use Rattle.std.specs.Ordering.{nat_cmp}
use Rattle.std.specs.FinMap as map

-- the words of a line: eight zeros if it was never stored
abbrev pub words_of : map.FinMap nat_cmp (List ℕ) → ℕ → List ℕ
words_of lines line = unwrap_or (map.get lines line) (replicate 8 0)
