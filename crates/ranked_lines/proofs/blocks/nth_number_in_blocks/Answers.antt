use Rattle.std.proofs.Common.{arith, sym, ap, ◌∙◌, length}
use Rattle.std.proofs.lemmas.Option.{slice_get-get_or}
use Rattle.ranked_lines.specs.Rising.{all_but}
use Rattle.ranked_lines.proofs.BlockedLists.{all_but-length, block-rises, nth-here, nth-later}
use Rattle.ranked_lines.proofs.blocks.nth_number_in_blocks.Goals as goal

pub count_without_number-here-requires-clause-rises : goal.count_without_number-here-requires-clause-rises
count_without_number-here-requires-clause-rises c = block-rises c.args.blocks.now c.loop-block.block-index
    c.block-item.result _
    c.loop-block-test.true c.block-item.is c.as_slice.ensures.value c.requires

pub index_without_number-requires-clause-rises : goal.index_without_number-requires-clause-rises
index_without_number-requires-clause-rises c = block-rises c.args.blocks.now c.loop-block.block-index
    c.block-item.result _
    c.loop-block-test.true c.block-item.is c.as_slice-numbers.ensures.value c.requires

pub index_without_number-requires-clause-most : goal.index_without_number-requires-clause-most
index_without_number-requires-clause-most c =
    let long = c.count_without_number-here.ensures ∙ ap (λ ys. length (all_but c.args.but.now ys))
    c.as_slice.ensures.value in
    let within = all_but-length c.args.but.now c.block-item.result.items in
    let same = ap length c.as_slice-numbers.ensures.value in omega (arith, long, within, same)

pub loop-block-preserved : goal.loop-block-preserved
loop-block-preserved c =
    let behind = c.if-left-here.false in
    sym (nth-later c.args.but.now c.args.blocks.now c.loop-block.block-index c.loop-block.left
    c.count_without_number-here.result
    c.block-item.result c.as_slice.result.now c.loop-block-test.true c.block-item.is c.as_slice.ensures.value
    c.count_without_number-here.ensures behind) ∙ c.loop-block.invariant

pub returns-then-left-here : goal.returns-then-left-here
returns-then-left-here c =
    let less = c.if-left-here.true in
    let same = c.as_slice-numbers.ensures.value in
    let long = c.count_without_number-here.ensures
    ∙ ap (λ ys. length (all_but c.args.but.now ys)) (c.as_slice.ensures.value ∙ sym same) in
    sym (slice_get-get_or c.as_slice-numbers.result.now c.index_without_number.result 0
    c.index_without_number.ensures.within)
    ∙ c.index_without_number.ensures.number
    ∙ sym (nth-here c.args.but.now c.args.blocks.now c.loop-block.block-index c.loop-block.left c.block-item.result
    c.as_slice-numbers.result.now c.loop-block-test.true c.block-item.is same (omega (arith, less, long)))
    ∙ c.loop-block.invariant
