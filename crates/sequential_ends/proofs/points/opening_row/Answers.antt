use Rattle.std.proofs.Common.{ℕ, List, ◌∷◌, ◌++◌, ap, ◌∙◌, arith, length}
use Rattle.sequential_ends.proofs.Packing.{opened_packed}
use Rattle.sequential_ends.proofs.points.opening_row.Goals as goal

pub returns : goal.returns
returns c =
    let over = c.loop-test.false in
    let within = c.loop.auto.counter-end in
    let count = c.threads-end.ensures.count in
    let words = c.deref.result.now in
    opened_packed c.loop.row.items c.push_list_with_length.new.row.items words _ c.loop.counter c.args.test.now.threads
    c.loop.invariant (c.in_ok-push_list_with_length.ensures
    ∙ ap (λ (xs : List ℕ). xs ++ length words ∷ words) c.new-row.ensures.items)
    (c.deref.ensures.value ∙ c.in_ok-words.ensures) (omega (arith, over, within, count))
