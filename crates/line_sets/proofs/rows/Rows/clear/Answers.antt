use Rattle.std.proofs.Common.{length, replicate, subst, sym, ap, ◌∙◌, arith, vec_capacity}
use Rattle.line_sets.specs.TaggedRows.{no_row, HasRoom}
use Rattle.line_sets.proofs.RowLaws.{halfway-last, room-same, spread-empty}
use Rattle.line_sets.proofs.rows.Rows.clear.Goals as goal

pub invariant_of-self : goal.invariant_of-self
invariant_of-self c =
    let ps = c.self.inside.places.items in let left = c.loop-at.self-inside.places.items in
    let i = c.loop-at.invariant in
    let all = halfway-last c.self.invariant.0 i.0 (omega (arith, c.loop-at-test.false, c.len-at-end.ensures)) in (
      spread-empty (length ps) left _ _ all.of_places c.clear.ensures.items all.of_rows,
      rw c.clear.ensures.capacity (subst (λ v. HasRoom left (vec_capacity v)) (sym i.1)
          (room-same ps left _ i.0.many c.self.invariant.1)),
    )

pub returns : goal.returns
returns c =
    let all = halfway-last c.self.invariant.0 c.loop-at.invariant.0
    (omega (arith, c.loop-at-test.false, c.len-at-end.ensures)) in
    all.of_rows ∙ ap (λ n. replicate n no_row) (sym c.self.invariant.0.long ∙ ap length c.self.view_is)
