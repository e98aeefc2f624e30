use Rattle.std.proofs.Common.{rules}
use Rattle.litmus_parser.proofs.TextPieces.{nothing_left, block_read, line_read, line_refused, line_same}
use Rattle.litmus_parser.proofs.headers.read_header_line.Goals as goal

pub returns-then-is_empty-clause-read : goal.returns-then-is_empty-clause-read
returns-then-is_empty-clause-read c =
    rw c.fault.ensures (nothing_left c.args.cursor.line c.args.cursor.rest.now (search rules))

pub returns-then-begins_block-clause-read : goal.returns-then-begins_block-clause-read
returns-then-begins_block-clause-read c = block_read c.args.cursor.line c.args.cursor.rest.now
    c.split_line.result.0.now (search rules) c.split_line.ensures.line (search rules)

pub returns-then-begins_block-clause-block : goal.returns-then-begins_block-clause-block
returns-then-begins_block-clause-block c = λ e. line_same c.args.cursor.line c.args.cursor.rest.now
    c.split_line.result.0.now (search rules) c.split_line.ensures.line (search rules)

pub returns-then-not-is_header_line-clause-read : goal.returns-then-not-is_header_line-clause-read
returns-then-not-is_header_line-clause-read c =
    rw c.fault-then-not-is_header_line.ensures (line_refused c.args.cursor.line c.args.cursor.rest.now
    c.split_line.result.0.now (search rules) c.split_line.ensures.line (search rules) (search rules))

pub returns-clause-read : goal.returns-clause-read
returns-clause-read c = line_read c.args.cursor.line c.args.cursor.rest.now c.split_line.result.0.now (search rules)
    c.split_line.ensures.line c.split_line.result.1.now c.split_line.ensures.rest (search rules) (search rules)
