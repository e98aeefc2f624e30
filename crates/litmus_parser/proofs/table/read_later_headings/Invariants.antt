use Rattle.std.proofs.Common.{◌≡◌, ◌-◌, ◌<◌, ◌≤◌}
use Rattle.litmus_lexer.specs.declared.errors.Kind.TheVariants.{BadTable}
use Rattle.piece_forms.specs.Forms.{many, refused}
use Rattle.piece_forms.specs.Reading.{reads}
use Rattle.litmus_parser.specs.Table.{separator, further_heading}
use Rattle.litmus_parser.proofs.table.read_later_headings.Given as goal

-- what is left to read is what all of it reads as
abbrev pub invariant-loop : goal.invariant-loop
invariant-loop l = record {
  left : reads (many (refused BadTable) separator further_heading (16 - l.counter) l.threads) l.at.line l.at.pieces
      ≡ reads (many (refused BadTable) separator further_heading 16 1) l.fn.cursor.line l.fn.cursor.pieces;
  few : (0 < l.threads) × (l.threads ≤ 16);
}
