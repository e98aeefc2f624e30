use Rattle.std.proofs.Common.{sym, ap, ◌∙◌}
use Rattle.std.specs.Option.{is_some}
use Rattle.line_sets.proofs.Walks.{line-of, added, not-added}
use Rattle.line_sets.proofs.sets.LineSets.push_listed_lines_of_set.Goals.{then-is_listed+in_ok-push, else-is_listed}
use Rattle.line_sets.proofs.sets.LineSets.push_listed_lines_of_set.Goals as goal

pub get-entry-requires : goal.get-entry-requires
get-entry-requires g c =
    let met = c.looked_up.ensures.met c.self.inside.arena.lists c.args.set c.loop.counter c.in-Some.cell
    c.lists-lists.ensures.once (sym c.loop.invariant.0 ∙ c.in-Some.is) in ap is_some met.cell

pub loop-preserved : goal.loop-preserved
loop-preserved g c =
    let met = c.looked_up.ensures.met c.self.inside.arena.lists c.args.set c.loop.counter c.in-Some.cell
    c.lists-lists.ensures.once (sym c.loop.invariant.0 ∙ c.in-Some.is) in let e = line-of met c.get-entry.ensures in (
      c.next-next.ensures ∙ met.next,
      elim c.if-is_listed.branch [
        | then-is_listed+in_ok-push w ↦ rw (ap (λ v. v.items) w.lines-is ∙ w.in_ok-push.ensures.items)
            (added g.V.Listed.is_listed c.loop.lines.items e (sym c.is_listed.ensures ∙ w.if-is_listed.true)
            c.loop.invariant.1)
        | else-is_listed w ↦ rw (ap (λ v. v.items) w.lines-is)
            (not-added g.V.Listed.is_listed c.loop.lines.items e
            (sym c.is_listed.ensures ∙ w.if-is_listed.false) c.loop.invariant.1)
      ],
    )
