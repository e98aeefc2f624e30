use Rattle.std.proofs.Common.{◌≡◌, ◌-◌, length, sym, ap, ◌∙◌, arith}
use Rattle.ranked_lines.specs.Rising.{all_but}
use Rattle.ranked_lines.proofs.SortedLists.{all_but-none}
use Rattle.ranked_lines.proofs.RisingEdits.{less, less-most, most}
use Rattle.ranked_lines.proofs.BlockedLists.{all-above, all-below, but-length, length-all_but}
use Rattle.ranked_lines.proofs.rising_list.count_without_number.Goals as goal

pub returns-in_default : goal.returns-in_default
returns-in_default c =
    sym (ap (λ but. length (all_but but c.args.numbers.now)) c.in_default.is
    ∙ ap length (all_but-none c.args.numbers.now))

pub overflow_sub-result : goal.overflow_sub-result
overflow_sub-result c =
    let low = c.count_numbers_below.ensures.count in let high = c.count_numbers_up_to.ensures.count in
    let le = less-most c.in-Some.but c.args.numbers.now in omega (arith, low, high, le)

pub returns-then-numbers-count : goal.returns-then-numbers-count
returns-then-numbers-count c =
    but-length c.args.but c.in-Some.but _ c.args.numbers.now c.in-Some.is
    (all-below c.in-Some.but c.args.numbers.now c.requires.rises c.if-numbers-count.true (omega arith))

pub returns-then-but-numbers : goal.returns-then-but-numbers
returns-then-but-numbers c =
    but-length c.args.but c.in-Some.but _ c.args.numbers.now c.in-Some.is
    (all-above c.in-Some.but c.args.numbers.now c.requires.rises c.if-but-numbers.true)

pub returns : goal.returns
returns c =
    let ys = c.args.numbers.now in let b = c.in-Some.but in
    let low = c.count_numbers_below.ensures.count in let high = c.count_numbers_up_to.ensures.count in
    let same : length ys - (c.count_numbers_up_to.result - c.count_numbers_below.result) ≡ length ys - (most b ys -
    less b ys) =
    omega (arith, low, high) in
    same ∙ sym (length-all_but b ys c.requires.rises)
    ∙ sym (ap (λ but. length (all_but but ys)) c.in-Some.is)
