use Rattle.std.proofs.Common.{◌*◌, ap, sym, ◌∙◌, arith, length}
use Rattle.ranked_lines.specs.Rising.{sorted}
use Rattle.ranked_lines.proofs.Lemmas.{rises-sorted}
use Rattle.line_sets.specs.SetTable.{all_listed}
use Rattle.line_sets.proofs.StoredSets.{length-sets}
use Rattle.line_sets.proofs.sets.LineSets.keep_order.Goals as goal

pub of-requires : goal.of-requires
of-requires g c =
    rw c.deref.ensures.value
    (rw c.in_ok-numbers.ensures (rises-sorted (all_listed g.V.Listed.is_listed c.resume_order.new.self.sets)))

pub invariant_of-self : goal.invariant_of-self
invariant_of-self g c =
    let stored = c.self.invariant.0 in let kept = c.in_ok-order.ensures in let room = kept.2 in
    let cells = stored.cells ∙ ap (λ n. n * c.self.inside.ways) (sym (c.sets.ensures
    ∙ ap (λ t. length t.sets) (sym c.self.view_is) ∙ length-sets c.self.inside.arena.lists)) in (
      stored,
      c.self.invariant.1,
      rw kept.1 (c.deref.ensures.value ∙ c.in_ok-numbers.ensures
          ∙ ap (λ t. sorted (all_listed g.V.Listed.is_listed t.sets)) (sym c.self.view_is)),
      rw kept.1 (omega (arith, cells, room)),
      c.self.invariant.4,
    )
