use Rattle.std.proofs.Common.{◌≡◌, arith, length, slice_get, sym, ap, ◌∙◌, ◌+◌, ◌-◌}
use Rattle.ranked_lines.specs.Rising.{all_but}
use Rattle.ranked_lines.proofs.SortedLists.{all_but-none}
use Rattle.ranked_lines.proofs.RisingEdits.{at-from, at-less, before-but, from-but, less, less-most, most}
use Rattle.ranked_lines.proofs.BlockedLists.{length-all_but, most-length}
use Rattle.ranked_lines.proofs.rising_list.index_without_number.Goals as goal

pub returns-in_default-clause-number : goal.returns-in_default-clause-number
returns-in_default-clause-number c =
    sym (ap (λ but. slice_get (all_but but c.args.numbers.now) c.args.at) c.in_default.is
    ∙ ap (λ ys. slice_get ys c.args.at) (all_but-none c.args.numbers.now))

pub returns-then-numbers-at-clause-number : goal.returns-then-numbers-at-clause-number
returns-then-numbers-at-clause-number c =
    let b = c.in-Some.but in let within = c.requires.inside in let most = c.requires.most in
    before-but b c.args.numbers.now c.args.at
    (at-less b c.args.numbers.now c.args.at 0 c.requires.rises (omega (arith, within, most)) c.if-numbers-at.true)
    ∙ sym (ap (λ but. slice_get (all_but but c.args.numbers.now) c.args.at)
    c.in-Some.is)

pub returns-clause-number : goal.returns-clause-number
returns-clause-number c =
    let ys = c.args.numbers.now in let b = c.in-Some.but in
    let within = c.requires.inside in let all = c.requires.most in
    let is = c.in-Some.is in
    let here = c.requires.here ∙ ap (λ but. length (all_but but ys)) is ∙ length-all_but b ys c.requires.rises in
    let le = less-most b ys in let most_in = most-length b ys in
    let same : c.args.at + (length ys - c.args.here) ≡ c.args.at + (most b ys - less b ys) =
    omega (arith, here, le, most_in) in
    ap (λ n. slice_get ys n) same
    ∙ from-but b ys c.args.at c.requires.rises (at-from b ys c.args.at 0 (omega (arith, within, all))
    c.if-numbers-at.false)
    ∙ sym (ap (λ but. slice_get (all_but but ys) c.args.at) is)
