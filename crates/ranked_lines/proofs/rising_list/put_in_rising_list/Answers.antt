use Rattle.std.proofs.Common.{ap, ◌∙◌, ltb}
use Rattle.std.specs.List.{insert, prefix_len}
use Rattle.ranked_lines.proofs.RisingEdits.{inserted}
use Rattle.ranked_lines.proofs.rising_list.put_in_rising_list.Goals as goal

pub returns : goal.returns
returns c =
    let ys = c.args.numbers.now.items in
    let at = c.count_numbers_below-at.ensures.count ∙ ap (prefix_len (λ y. ltb y c.args.number))
    c.as_slice.ensures.value in
    c.insert.ensures.items ∙ ap (λ n. insert ys n c.args.number) at ∙ inserted c.args.number ys
