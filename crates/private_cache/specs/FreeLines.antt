-- The lines that may be evicted from a cache.
use Rattle.std.specs.Prelude.{ℕ, Bool, true, false, not, List, filter, Option, None, Some, is_some}
use Rattle.line_sets.specs.SetTable.{Sets, all_listed}
use Rattle.private_cache.specs.declared.line_copy.LineCopy.{LineCopy}
use Rattle.private_cache.specs.CopyTable.{copy_of, is_pinned}

-- the lines of the copies but the pinned one, set by set
abbrev pub free_lines : Sets LineCopy → Option ℕ → List ℕ
free_lines cache pinned = filter (λ line. not (is_pinned pinned line)) (all_listed (λ copy. true) cache.sets)

-- whether there is a copy of the pinned line
abbrev pub has_pinned : Sets LineCopy → Option ℕ → Bool
has_pinned cache None = false
has_pinned cache (Some line) = is_some (copy_of cache line)
