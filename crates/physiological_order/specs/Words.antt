-- The words that operations leave set.
use Rattle.std.specs.Prelude.{ℕ, List, [], ◌∷◌}
use Rattle.std.specs.Ordering.{nat_cmp}
use Rattle.std.specs.FinMap.{FinMap, insert}
use Rattle.physiological_order.specs.declared.operation.Op.{Op}
use Rattle.physiological_order.specs.declared.operation.Op.TheVariants.{Load, Store, Swap}

abbrev pub words_after : FinMap nat_cmp ℕ → Op → FinMap nat_cmp ℕ
words_after words (Load a) = words
words_after words (Store a v) = insert words a v
words_after words (Swap a v) = insert words a v

abbrev pub words_end : FinMap nat_cmp ℕ → List Op → FinMap nat_cmp ℕ
words_end words [] = words
words_end words (op ∷ ops) = words_end (words_after words op) ops
