use Rattle.std.proofs.Common.{arith, ltb, ap, ◌∙◌}
use Rattle.std.specs.List.{prefix_len, remove}
use Rattle.ranked_lines.proofs.RisingEdits.{none-removed, removed}
use Rattle.ranked_lines.proofs.rising_list.take_out_of_rising_list.Goals as goal

pub returns-then-at-len : goal.returns-then-at-len
returns-then-at-len c =
    let ys = c.args.numbers.now.items in
    let at = c.count_numbers_below-at.ensures.count ∙ ap (prefix_len (λ y. ltb y c.args.number))
    c.as_slice.ensures.value in
    c.remove-number.ensures.items ∙ ap (remove ys) at ∙ removed c.args.number ys

pub returns-else-at-len : goal.returns-else-at-len
returns-else-at-len c =
    let ys = c.args.numbers.now.items in
    let at = c.count_numbers_below-at.ensures.count ∙ ap (prefix_len (λ y. ltb y c.args.number))
    c.as_slice.ensures.value in
    let le = c.if-at-len.false in let long = c.len.ensures in
    none-removed c.args.number ys (omega (arith, at, le, long))
