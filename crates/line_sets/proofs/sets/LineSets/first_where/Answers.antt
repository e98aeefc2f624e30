use Rattle.std.proofs.Common.{sym, ap, ◌∙◌}
use Rattle.std.specs.Option.{is_some}
use Rattle.line_sets.specs.Order.{first_where}
use Rattle.line_sets.proofs.StoredSets.{below, entries-at}
use Rattle.line_sets.proofs.Walks.{line-of, first-passes, first-fails}
use Rattle.line_sets.proofs.sets.LineSets.first_where.Goals as goal

pub get-entry-requires : goal.get-entry-requires
get-entry-requires g c =
    let met = c.looked_up.ensures.met c.self.inside.arena.lists c.args.set c.loop.counter c.in-Some.cell
    c.lists-lists.ensures.once (sym c.loop.invariant.0 ∙ c.in-Some.is) in ap is_some met.cell

pub returns-then-passes : goal.returns-then-passes
returns-then-passes g c =
    let ls = c.self.inside.arena.lists in let h = below c.args.set c.self.invariant.0 c.self.view_is c.requires in
    let met = c.looked_up.ensures.met ls c.args.set c.loop.counter c.in-Some.cell c.lists-lists.ensures.once
    (sym c.loop.invariant.0 ∙ c.in-Some.is) in let passes = g.T.LineTest.passes c.args.test.now in
    rw (← c.self.view_is) (sym (ap (first_where passes) (entries-at ls c.args.set h) ∙ c.loop.invariant.1
    ∙ first-passes passes (line-of met c.get-entry.ensures) (sym c.passes.ensures ∙ c.if-passes.true)))

pub loop-preserved : goal.loop-preserved
loop-preserved g c =
    let met = c.looked_up.ensures.met c.self.inside.arena.lists c.args.set c.loop.counter c.in-Some.cell
    c.lists-lists.ensures.once (sym c.loop.invariant.0 ∙ c.in-Some.is) in (
      c.next-next.ensures ∙ met.next,
      c.loop.invariant.1 ∙ first-fails (g.T.LineTest.passes c.args.test.now) (line-of met c.get-entry.ensures)
          (sym c.passes.ensures ∙ c.if-passes.false),
    )
