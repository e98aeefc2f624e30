use Rattle.std.proofs.Common.{◌≤◌, ◌+◌, ℕ, List, length, ltb, arith}
use Rattle.std.specs.List.{prefix_len}
use Rattle.std.proofs.lemmas.List.Sums.{prefix_len-le-length}
use Rattle.ranked_lines.proofs.RisingEdits.{at-from, at-less}
use Rattle.ranked_lines.proofs.search.count_numbers_below.Goals as goal

at-most : (b : ℕ) (ys : List ℕ) → prefix_len (λ y. ltb y b) ys ≤ 0 + length ys
at-most b ys = let le = prefix_len-le-length (λ y. ltb y b) ys in omega (arith, le)

pub halve_searched_part-of_64-requires-clause-to : goal.halve_searched_part-of_64-requires-clause-to
halve_searched_part-of_64-requires-clause-to c = at-most _ c.args.numbers.now

pub returns-then-numbers-last-clause-count : goal.returns-then-numbers-last-clause-count
returns-then-numbers-last-clause-count c =
    let of_64 = c.halve_searched_part-of_64.ensures.half 64 c.requires.few in
    let of_32 = c.halve_searched_part-of_32.ensures.half 32 of_64 in
    let of_16 = c.halve_searched_part-of_16.ensures.half 16 of_32 in
    let of_8 = c.halve_searched_part-of_8.ensures.half 8 of_16 in
    let of_4 = c.halve_searched_part-of_4.ensures.half 4 of_8 in
    let of_2 = c.halve_searched_part-of_2.ensures.half 2 of_4 in
    let one = c.halve_searched_part-last.ensures.half 1 of_2 in
    let less = at-less c.args.number c.args.numbers.now c.halve_searched_part-last.result.0 0 c.requires.rises
    (let some = c.halve_searched_part-last.ensures.some in let inside = c.halve_searched_part-last.ensures.inside in
    omega (arith, some, inside)) c.if-numbers-last.true in
    let to = c.halve_searched_part-last.ensures.to in omega (arith, one, less, to)

pub returns-else-numbers-last-clause-count : goal.returns-else-numbers-last-clause-count
returns-else-numbers-last-clause-count c =
    let less = at-from c.args.number c.args.numbers.now c.halve_searched_part-last.result.0 0
    (let some = c.halve_searched_part-last.ensures.some in let inside = c.halve_searched_part-last.ensures.inside in
    omega (arith, some, inside)) c.if-numbers-last.false in
    let from = c.halve_searched_part-last.ensures.from in omega (arith, less, from)
