use Rattle.std.proofs.Common.{◌*◌, ap, sym, inl, inr, ◌∙◌, arith, length}
use Rattle.std.proofs.lemmas.Bool.{cases_Bool}
use Rattle.ranked_lines.specs.Rising.{sorted}
use Rattle.line_sets.specs.SetTable.{all_listed}
use Rattle.line_sets.proofs.StoredSets.{length-sets}
use Rattle.line_sets.proofs.sets.LineSets.resume_order.Goals as goal

pub invariant_of-self : goal.invariant_of-self
invariant_of-self g c =
    let stored = c.self.invariant.0 in
    let cells = stored.cells ∙ ap (λ n. n * c.self.inside.ways) (sym (c.sets.ensures
    ∙ ap (λ t. length t.sets) (sym c.self.view_is) ∙ length-sets c.self.inside.arena.lists)) in
    elim (cases_Bool c.resume.result) [
      | inl e ↦ (
        stored,
        c.self.invariant.1,
        rw (c.resume.ensures.kept e).1 (ap sorted (c.deref.ensures.value ∙ c.in_ok-lines.ensures
            ∙ ap (λ t. all_listed g.V.Listed.is_listed t.sets) (sym c.self.view_is))),
        (let room = (c.resume.ensures.kept e).2 in rw (c.resume.ensures.kept e).1 (omega (arith, cells, room))),
        c.self.invariant.4,
      )
      | inr e ↦ (
        stored,
        c.self.invariant.1,
        rw (c.resume.ensures.refused e) c.self.invariant.2,
        rw (c.resume.ensures.refused e) c.self.invariant.3,
        c.self.invariant.4,
      )
    ]
