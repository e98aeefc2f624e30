use Rattle.std.proofs.Common.{ap, ◌∙◌, eqb}
use Rattle.std.proofs.lemmas.List.{get_or_read}
use Rattle.line_sets.specs.SetTable.{set_at}
use Rattle.line_sets.specs.Stored.{sets_of}
use Rattle.line_sets.proofs.ListedChanges.{count-at, none-failing, within}
use Rattle.line_sets.proofs.StoredSets.{below}
use Rattle.line_sets.proofs.sets.LineSets.is_all_listed.Goals as goal

pub returns : goal.returns
returns g c =
    let a = c.self.inside.arena in let i = c.args.set in let passes = g.V.Listed.is_listed in
    let h = below i c.self.invariant.0 c.self.view_is c.requires in
    let read = get_or_read c.self.inside.unlisted.items i c.index.result.now (within passes a i h c.self.invariant.4)
    c.index.ensures 0 in
    rw (← c.self.view_is) (ap (λ n. eqb n 0) (read ∙ count-at passes a i h c.self.invariant.4)
    ∙ none-failing passes (set_at (sets_of a.lists) i))
