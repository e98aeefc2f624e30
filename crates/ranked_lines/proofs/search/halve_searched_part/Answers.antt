use Rattle.std.proofs.Common.{◌+◌, ◌/◌, arith}
use Rattle.ranked_lines.proofs.RisingEdits.{at-from, at-less}
use Rattle.ranked_lines.proofs.search.halve_searched_part.Goals.{then-numbers-middle, else-numbers-middle}
use Rattle.ranked_lines.proofs.search.halve_searched_part.Goals as goal

pub returns-clause-from : goal.returns-clause-from
returns-clause-from c = elim c.if-numbers-middle.branch [
  | then-numbers-middle w ↦
      let less = at-less c.args.number c.args.numbers.now (c.args.part.0 + c.args.part.1 / 2) 0 c.requires.rises
      (omega (arith, c.requires.inside, c.requires.some)) w.if-numbers-middle.true in
      omega (arith, less, w.begin-is)
  | else-numbers-middle w ↦ omega (arith, c.requires.from, w.begin-is)
]

pub returns-clause-to : goal.returns-clause-to
returns-clause-to c = elim c.if-numbers-middle.branch [
  | then-numbers-middle w ↦ omega (arith, c.requires.to, w.begin-is)
  | else-numbers-middle w ↦
      let less = at-from c.args.number c.args.numbers.now (c.args.part.0 + c.args.part.1 / 2) 0
      (omega (arith, c.requires.inside, c.requires.some)) w.if-numbers-middle.false in
      omega (arith, less, w.begin-is)
]
