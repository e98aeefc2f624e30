use Rattle.std.proofs.Common.{◌+◌, cond, length, sym, ap, ◌∙◌}
use Rattle.line_sets.specs.SetTable.{Sets}
use Rattle.private_cache.specs.declared.line_copy.LineCopy.{LineCopy}
use Rattle.private_cache.specs.FreeLines.{free_lines, has_pinned}
use Rattle.private_cache.proofs.FreeCounts.{free-counted}
use Rattle.private_cache.proofs.cache.Cache.count.Goals as goal

pub returns-clause-free : goal.returns-clause-free
returns-clause-free c pinned =
    ap (λ (t : Sets LineCopy). length (free_lines t pinned) + cond (has_pinned t pinned) 1 0) (sym c.self.view_is)
    ∙ free-counted c.self.inside.table pinned c.self.invariant c.count_listed_lines.ensures.once
    ∙ sym c.count_listed_lines.ensures.count
