use Rattle.std.proofs.Common.{◌≡◌, ◌-◌, ◌≤◌, None}
use Rattle.litmus_lexer.specs.declared.errors.Kind.TheVariants.{TooLarge}
use Rattle.piece_forms.specs.Forms.{one, many, refused}
use Rattle.piece_forms.specs.Reading.{reads}
use Rattle.litmus_parser.specs.Names.{address_of}
use Rattle.litmus_parser.specs.Table.{row_or_condition, counted_row}
use Rattle.litmus_parser.proofs.table.read_rows_into.Given as goal

-- what is left to read is what all of it reads as
abbrev pub invariant-loop : goal.invariant-loop
invariant-loop l = record {
  left : reads (many (refused TooLarge) (λ t. one (row_or_condition t.0))
      (counted_row (address_of l.fn.items) l.fn.threads) (1025 - l.counter)
      (l.count, (l.cells.items, l.width))) l.at.line l.at.pieces
      ≡ reads (many (refused TooLarge) (λ t. one (row_or_condition t.0))
      (counted_row (address_of l.fn.items) l.fn.threads) 1025
      (0, (l.fn.cells.items, None))) l.fn.cursor.line l.fn.cursor.pieces;
  few : l.count ≤ l.counter;
}
