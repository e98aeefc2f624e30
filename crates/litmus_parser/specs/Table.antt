-- The grammar of the table, as forms: the header row, and the rows up to the condition.
use Rattle.std.specs.Prelude.{ℕ, ◌+◌, ◌-◌, ◌==◌, ◌&&◌, nat_le, Bool, true, false, if◌then◌else◌, List, [], ◌∷◌, ◌++◌}
use Rattle.std.specs.Prelude.{Option, None, Ok, Err, is_some}
use Rattle.std.specs.Option.{option_map_or}
use Rattle.std.specs.List.{find}
use Rattle.litmus_lexer.specs.declared.limits.TheConstants.{MOST_ROWS, MOST_THREADS}
use Rattle.litmus_lexer.specs.declared.signs.TheConstants.{BAR, SEMICOLON}
use Rattle.litmus_lexer.specs.Pieces.{Piece, Word, LineEnd}
use Rattle.litmus_lexer.specs.Spelling.{thread_named}
use Rattle.litmus_lexer.specs.declared.errors.Kind.TheVariants.{TooLarge, BadInitial, BadTable, BadInstruction}
use Rattle.litmus_lexer.specs.Reading.{fails}
use Rattle.piece_forms.specs.Places.{InLine}
use Rattle.piece_forms.specs.Forms.{Verdict, Leaves, Refuses, Form, Gives, Test, Known}
use Rattle.piece_forms.specs.Forms.{◌>>=◌, taken, word, is_sign, either_sign, one, here, perhaps, line_end, either}
use Rattle.piece_forms.specs.Forms.{many, refused}
use Rattle.litmus_parser.specs.Keywords.{quantifier_of}
use Rattle.litmus_parser.specs.Instructions.{instruction}
use Rattle.litmus_parser.specs.Names.{address_of}
use Rattle.litmus_parser.specs.Verdicts.{Bases, meaning}
use Rattle.litmus_parser.specs.declared.syntax.Width.{Width}
use Rattle.litmus_parser.specs.declared.syntax.Item.{Item}
use Rattle.litmus_parser.specs.declared.syntax.Name.{Name}
use Rattle.litmus_parser.specs.declared.syntax.Name.TheVariants.{Register, Location}
use Rattle.litmus_parser.specs.declared.syntax.Cell.{Cell}

-- ---- the header row

-- the heading of this thread, of 16 at most
abbrev pub heading : ℕ → Piece → Verdict (Unit {0})
heading thread = word BadTable (λ w. option_map_or (λ named.
    if named == thread then (if nat_le MOST_THREADS thread then Err TooLarge else Ok tt) else Err BadTable)
    (thread_named w) (Err BadTable))

-- | before a further heading, or ;
abbrev pub separator : ℕ → Form Bool
separator threads = here BadTable (either_sign BadTable BAR SEMICOLON)

abbrev pub further_heading : ℕ → Form ℕ
further_heading threads = here BadTable (heading threads) >>= λ _. Gives (threads + 1)

-- header := P0 { "|" PT } ;
-- and the end of the line; a heading after MOST_THREADS of them is refused, so the steps end with ;
unfoldable pub header : Form ℕ
header = do
  _ ← one (heading 0)
  threads ← many (refused BadTable) separator further_heading MOST_THREADS 1
  _ ← line_end BadTable
  Gives threads

abbrev pub is_absent : ℕ → Name → Bool
is_absent threads (Register thread register) = nat_le threads thread
is_absent threads (Location l) = false

-- ---- rows

abbrev pub ends_here : List Piece → Bool
ends_here [] = true
ends_here (LineEnd ∷ pieces) = true
ends_here pieces = false

-- so many |, then a ;, and nothing after it in the line
unfoldable pub has_shape : ℕ → List Piece → Bool
has_shape bars [] = false
has_shape bars (LineEnd ∷ pieces) = false
has_shape bars (piece ∷ pieces) =
    if is_sign SEMICOLON piece then bars == 0 && ends_here pieces
    else if is_sign BAR piece then (if bars == 0 then false else has_shape (bars - 1) pieces)
    else has_shape bars pieces

-- the instructions so far, and the width so far
abbrev pub Rows : Type 0
Rows = List Cell × Option Width

-- an instruction, with what it means in its thread, and the sign with which the cell ends
unfoldable pub filled : Bases → ℕ → ℕ → Rows → Form Rows
filled bases thread end rows = do
  f ← instruction
  i ← here BadInstruction (λ piece.
      if is_sign end piece then taken (meaning bases thread rows.1 f) else Refuses BadInstruction)
  Gives (rows.0 ++ (record { thread = thread; instruction = i.0 }) ∷ [], i.1)

-- cell := [ instruction ]
unfoldable pub cell : Bases → ℕ → ℕ → Rows → Form Rows
cell bases thread end rows =
    perhaps InLine (is_sign end) >>= either (Gives rows) (filled bases thread end rows)

-- the cell of the thread, with | after it, or ; for the last one
unfoldable pub column : Bases → ℕ → ℕ × Rows → Form (ℕ × Rows)
column bases threads c =
    cell bases c.0 (if c.0 + 1 == threads then SEMICOLON else BAR) c.1 >>= λ rows. Gives (c.0 + 1, rows)

-- row := cell { "|" cell } ;
-- and the end of the line; its shape is tested before its cells
unfoldable pub row : Bases → ℕ → Rows → Form Rows
row bases threads rows = do
  _ ← Test (has_shape (threads - 1)) BadTable
  c ← many Gives (λ c. Gives true) (column bases threads) threads (0, rows)
  _ ← line_end BadTable
  Gives c.1

-- a row begins there, of 1024 at most, or the condition
abbrev pub row_begins : Bool → ℕ → Verdict Bool
row_begins is_keyword count =
    if is_keyword then Leaves false else if nat_le MOST_ROWS count then Refuses TooLarge else Leaves true

abbrev pub row_or_condition : ℕ → Piece → Verdict Bool
row_or_condition count (Word w) = row_begins (is_some (quantifier_of w)) count
row_or_condition count piece = row_begins false count

unfoldable pub counted_row : Bases → ℕ → ℕ × Rows → Form (ℕ × Rows)
counted_row bases threads t = row bases threads t.1 >>= λ rows. Gives (t.0 + 1, rows)

-- rows := { row }
-- up to the condition; a row after MOST_ROWS of them is refused, so the steps end with a keyword
unfoldable pub rows : Bases → ℕ → Form (List Cell)
rows bases threads =
    many (refused TooLarge) (λ t. one (row_or_condition t.0)) (counted_row bases threads) (MOST_ROWS + 1)
    (0, ([], None)) >>= λ t. Gives t.1.0

-- table := header rows
-- an item for a thread that the header row doesn't name is a fault in the item's line
unfoldable pub table : List Item → Form (ℕ × List Cell)
table items = do
  threads ← header
  _ ← Known {A = Unit {0}} (option_map_or (λ item. fails BadInitial item.line)
      (find (λ item. is_absent threads item.name) items) (Ok tt))
  cells ← rows (address_of items) threads
  Gives (threads, cells)
