use Rattle.std.proofs.Common.{rules}
use Rattle.litmus_reader.proofs.OpeningItems.{no-location}
use Rattle.litmus_reader.proofs.contents.Test.opening.Goals as goal

pub returns-in_err-set_location_word-clause-sure : goal.returns-in_err-set_location_word-clause-sure
returns-in_err-set_location_word-clause-sure c = λ none.
    let set = c.in_err-set_location_word.ensures.sure (no-location c.loop-item.left.now c.in-Some.item.now
    c.in-Some.rest.now (search rules) (c.loop-item.invariant.1 none)) in
    absurd cc
