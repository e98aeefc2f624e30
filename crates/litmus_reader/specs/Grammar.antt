-- The grammar of litmus texts.
use Rattle.std.specs.Prelude.{◌≡◌, ℕ, ◌≤◌, true, List, [], length}
use Rattle.std.specs.List.{list_all}
use Rattle.litmus_lexer.specs.declared.limits.TheConstants.{MOST_BYTES}
use Rattle.litmus_lexer.specs.Pieces.{Piece}
use Rattle.piece_forms.specs.Forms.{Form, Gives, Stands, ◌>>=◌}
use Rattle.litmus_parser.specs.Extents.{is_allowed}
use Rattle.litmus_parser.specs.Header.{text_pieces, preamble}
use Rattle.litmus_parser.specs.Block.{block}
use Rattle.litmus_parser.specs.Table.{table}
use Rattle.litmus_parser.specs.Names.{address_of}
use Rattle.litmus_parser.specs.Condition.{condition}
use Rattle.litmus_reader.specs.Litmus.{Litmus, settings_of}
use Rattle.litmus_reader.specs.Seen.{seen_in}

-- test := preamble block table condition
unfoldable pub whole_test : Form Litmus
whole_test = do
  name ← preamble
  b ← block []
  t ← table b.0
  c ← condition (address_of b.0) t.0 b.1
  Gives (record {
    name = name;
    locations = c.2;
    items = settings_of b.0;
    threads = t.0;
    cells = t.1;
    quantifier = c.0;
    tree = c.1;
    seen = seen_in c.1 [];
  })

-- at most 65,536 allowed bytes, whose pieces stand in the form of this test
pub record IsTest (text : List ℕ) (test : Litmus) : Type 0 where
  pub length_is : length text ≤ MOST_BYTES
  pub allowed : list_all is_allowed text ≡ true
  pub last : ℕ
  pub end : List Piece
  pub stands : Stands whole_test 1 (text_pieces text []) test last end
