use Rattle.std.proofs.Common.{◌≡◌, ◌+◌, ◌-◌, ℕ, []}
use Rattle.litmus_lexer.specs.declared.errors.Kind.TheVariants.{BadHeader, CutShort}
use Rattle.piece_forms.specs.Forms.{one, line_end, many, refused}
use Rattle.piece_forms.specs.Reading.{reads}
use Rattle.litmus_parser.specs.Header.{text_pieces, behind_lines, line_or_block}
use Rattle.litmus_parser.proofs.headers.read_header_lines.Given as goal

-- what is left to read is what all of it reads as, and stands behind some lines
abbrev pub invariant-loop : goal.invariant-loop
invariant-loop l = record {
  read : reads (many (refused CutShort) (λ _. one line_or_block) (λ _. line_end BadHeader) (65536 - l.counter) tt)
      l.at.line (text_pieces l.at.rest.now [])
      ≡ reads (many (refused CutShort) (λ _. one line_or_block) (λ _. line_end BadHeader) 65536 tt)
      l.fn.cursor.line (text_pieces l.fn.cursor.rest.now []);
  body : (n : ℕ) × (l.at.line ≡ l.fn.cursor.line + n) × (l.at.rest.now ≡ behind_lines n l.fn.cursor.rest.now);
}
