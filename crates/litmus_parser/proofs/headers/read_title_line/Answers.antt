use Rattle.std.proofs.Common.{rules}
use Rattle.litmus_parser.proofs.TextPieces.{nothing_read, title_read}
use Rattle.litmus_parser.proofs.headers.read_title_line.Goals as goal

pub returns-then-is_empty-clause-read : goal.returns-then-is_empty-clause-read
returns-then-is_empty-clause-read c = rw c.fault.ensures (nothing_read c.args.text.now (search rules))

pub returns-in-Some-clause-read : goal.returns-in-Some-clause-read
returns-in-Some-clause-read c =
    title_read c.args.text.now c.split_line.result.0.now c.split_line.result.1.now _ (search rules)
    c.split_line.ensures.line c.split_line.ensures.rest c.in-Some.ensures.exact

pub returns-in-None-clause-read : goal.returns-in-None-clause-read
returns-in-None-clause-read c = rw c.fault-in-None.ensures (title_read c.args.text.now c.split_line.result.0.now
    c.split_line.result.1.now _ (search rules) c.split_line.ensures.line c.split_line.ensures.rest
    c.in-None.ensures.exact)
