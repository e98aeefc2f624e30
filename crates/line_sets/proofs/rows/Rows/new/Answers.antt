use Rattle.std.proofs.Common.{◌≡◌, ℕ, Option, None, length, replicate, ap, ◌∙◌, arith}
use Rattle.std.proofs.lemmas.List.{length-replicate}
use Rattle.line_sets.proofs.RowLaws.{spread-empty}
use Rattle.line_sets.proofs.rows.Rows.new.Goals as goal

pub invariant_of-result : goal.invariant_of-result
invariant_of-result c =
    let count : c.loop.counter ≡ c.args.sets = omega arith in
    let empty = c.loop.invariant.0 ∙ ap (λ n. replicate n None) count in
    let long : length c.loop.places.items ≡ c.args.sets = ap length empty
    ∙ length-replicate {A = Option ℕ} c.args.sets None in (
      spread-empty c.args.sets c.loop.places.items _ _ empty c.in_ok-of_rows.ensures.items
          (c.in_ok-rows.ensures.items_if_clones_equal (λ y e. e) ∙ ap (replicate c.args.sets) c.new.ensures),
      record {
        for_sets = omega (arith, long, c.in_ok-of_rows.ensures.exact);
        small = omega (arith, long, c.requires);
      },
    )
