-- Whether a core has a copy of the line of its open operation, and what follows.
use Rattle.std.specs.Prelude.{ℕ, ◌/◌, ◌&&◌, Bool, false, not, Option, None, Some, is_some}
use Rattle.physiological_order.specs.declared.operation.Op.{Op}
use Rattle.physiological_order.specs.Order.{address}
use Rattle.line_sets.specs.SetTable.{Sets}
use Rattle.private_cache.specs.declared.line_copy.LineCopy.{LineCopy}
use Rattle.private_cache.specs.CopyTable.{copy_of, victim_for}
use Rattle.core_pts.specs.CoreTable.{CoreState, line_of}

-- whether the line of the open operation has a copy, for lines of this many words
abbrev pub has_open_copy : ℕ → Sets LineCopy → Option Op → Bool
has_open_copy line_words cache None = false
has_open_copy line_words cache (Some op) = is_some (copy_of cache (address op / line_words))

-- whether a request is out, and the line of the open operation has no copy
abbrev pub waits_without : CoreState → Option Op → Bool
waits_without core None = false
waits_without core (Some op) = core.is_out && not (is_some (copy_of core.cache (line_of core op)))

-- the copy to evict to make room for the line of an open operation
abbrev pub open_victim : CoreState → Option Op → Option ℕ
open_victim core None = None
open_victim core (Some op) = victim_for core.cache (line_of core op)
