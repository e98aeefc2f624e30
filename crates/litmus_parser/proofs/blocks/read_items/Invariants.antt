use Rattle.std.proofs.Common.{◌≡◌, ◌-◌, []}
use Rattle.litmus_lexer.specs.declared.errors.Kind.TheVariants.{BadInitial}
use Rattle.piece_forms.specs.Forms.{until, refused}
use Rattle.piece_forms.specs.Reading.{reads}
use Rattle.litmus_parser.specs.Block.{entry}
use Rattle.litmus_parser.proofs.blocks.read_items.Given as goal

-- what is left to read is what all of it reads as
abbrev pub invariant-loop : goal.invariant-loop
invariant-loop l =
    reads (until (refused BadInitial) entry (65536 - l.counter) (l.items.items, l.locations)) l.at.line l.at.pieces
    ≡ reads (until (refused BadInitial) entry 65536 ([], l.fn.locations)) l.fn.cursor.line l.fn.cursor.pieces
