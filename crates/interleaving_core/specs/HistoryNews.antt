-- What a history is after what happens to it.
use Rattle.std.specs.Prelude.{ℕ, List, [], ◌∷◌, ◌++◌, replicate, slice_index_or, slice_set}
use Rattle.physiological_order.specs.declared.operation.Op.{Op}
use Rattle.physiological_order.specs.declared.operation.Record.{Record}
use Rattle.interleaving_core.specs.declared.unkept.News.{News}
use Rattle.interleaving_core.specs.declared.unkept.News.TheVariants.{Opened, Issued, Completed}

-- one operation more of a core
abbrev pub with_issued : List (List Op) → ℕ → Op → List (List Op)
with_issued issued core op = slice_set issued core (slice_index_or issued core [] ++ op ∷ [])

-- what the cores were issued, and the records
abbrev pub after_news : List (List Op) × List Record → News → List (List Op) × List Record
after_news lists (Opened cores) = (replicate cores [], [])
after_news lists (Issued core op) = (with_issued lists.0 core op, lists.1)
after_news lists (Completed done) = (lists.0, lists.1 ++ done ∷ [])
