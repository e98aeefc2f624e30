use Rattle.std.proofs.Common.{sym, ap, ◌∙◌}
use Rattle.line_sets.specs.Order.{oldest}
use Rattle.line_sets.proofs.StoredSets.{below, entries-at}
use Rattle.line_sets.proofs.Walks.{line-of}
use Rattle.line_sets.proofs.sets.LineSets.oldest.Goals as goal

pub returns-clause-line : goal.returns-clause-line
returns-clause-line g c =
    let ls = c.self.inside.arena.lists in let h = below c.args.set c.self.invariant.0 c.self.view_is c.requires in
    let met = c.looked_up.ensures.met ls c.args.set 0 c.in-Some.cell c.lists-lists.ensures.once
    (sym c.front.ensures ∙ c.in-Some.is) in
    rw (← c.self.view_is) (sym (ap oldest (entries-at ls c.args.set h ∙ line-of met c.get.ensures)))
