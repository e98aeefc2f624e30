use Rattle.std.proofs.Common.{arith, refl}
use Rattle.ranked_lines.proofs.BlockedLists.{block-rises, placed, placed-filled, placed-dense, sized}
use Rattle.ranked_lines.proofs.blocks.put_number_in_block.Goals as goal

pub put_in_rising_list-requires-clause-rises : goal.put_in_rising_list-requires-clause-rises
put_in_rising_list-requires-clause-rises c = block-rises c.args.blocks.now.items c.args.at c.index_mut.result.now _
    c.requires.place.0 c.index_mut.ensures.value refl c.requires.rises

pub put_in_rising_list-requires-clause-room : goal.put_in_rising_list-requires-clause-room
put_in_rising_list-requires-clause-room c =
    let same = sized c.args.at c.args.blocks.now.items c.index_mut.result.now c.requires.place.0
    c.index_mut.ensures.value in let few = c.requires.room in omega (arith, same, few)

pub returns-clause-put : goal.returns-clause-put
returns-clause-put c =
    placed c.args.number c.args.blocks.now.items c.args.at c.index_mut.result.now c.put_in_rising_list.new.numbers
    c.requires.place.0 c.requires.place.1 (λ more. c.requires.place.2 (omega (arith, more))) c.index_mut.ensures.value
    c.put_in_rising_list.ensures

pub returns-clause-filled : goal.returns-clause-filled
returns-clause-filled c = placed-filled c.args.number c.args.blocks.now.items c.args.at c.index_mut.result.now
    c.put_in_rising_list.new.numbers c.requires.filled c.put_in_rising_list.ensures

pub returns-clause-dense : goal.returns-clause-dense
returns-clause-dense c = placed-dense c.args.number c.args.blocks.now.items c.args.at c.index_mut.result.now
    c.put_in_rising_list.new.numbers c.index_mut.ensures.value c.put_in_rising_list.ensures
