use Rattle.std.proofs.Common.{◌≡◌, ◌<◌, true, List, ℕ, length, Some, IfOk, slice_get, sym, ap, ◌∙◌, subst}
use Rattle.ranked_lines.specs.Rising.{sorted}
use Rattle.line_sets.specs.SetTable.{Sets, all_listed}
use Rattle.private_cache.specs.declared.line_copy.LineCopy.{LineCopy}
use Rattle.private_cache.specs.FreeLines.{free_lines}
use Rattle.private_cache.proofs.FreeCounts.{unpinned}
use Rattle.private_cache.proofs.cache.Cache.free_copy.Goals as goal

pub nth_listed-requires : goal.nth_listed-requires
nth_listed-requires c =
    subst (λ (xs : List ℕ). c.args.at < length xs)
    (sym (unpinned c.args.pinned (all_listed (λ copy. true) c.self.inside.table.sets)
    ∙ ap (λ (t : Sets LineCopy). free_lines t c.args.pinned) c.self.view_is)) c.requires

pub returns : goal.returns
returns c =
    subst (λ (xs : List ℕ). IfOk c.nth_listed.result (λ line. slice_get (sorted xs) c.args.at ≡ Some line))
    (unpinned c.args.pinned (all_listed (λ copy. true) c.self.inside.table.sets)
    ∙ ap (λ (t : Sets LineCopy). free_lines t c.args.pinned) c.self.view_is) c.nth_listed.ensures
