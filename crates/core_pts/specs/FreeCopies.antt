-- The copies of a core that may be evicted.
use Rattle.std.specs.Prelude.{ℕ, List}
use Rattle.private_cache.specs.FreeLines.{free_lines}
use Rattle.core_pts.specs.CoreTable.{CoreState, pinned_line}

-- the lines of the copies, set by set, but that of the open operation
abbrev pub free_copies : CoreState → List ℕ
free_copies core = free_lines core.cache (pinned_line core)
